-- By the tests of the three fields; a version that was read is at most 65,535.
use mathlib.Core.Path.{◌≡◌, ap, ◌∙◌}
use native.Mathlib.Omega.{arith}
use Rattle.text.specs.NumbersLaws.{decimal-at-most}
use Rattle.lines.specs.Words.{words_of, word_of}
use Rattle.lines.specs.Fields.{code_in}
use Rattle.bench_requests.specs.StoreRequests.{version_in, alterations_in}
use Rattle.bench_requests.proofs.settings_requests.change.Goals as goal
use Rattle.bench_requests.proofs.settings_requests.change.Goals.{After-alterations_in-a}

-- the alterations are those of the last three fields
alterations-are : (c : After-alterations_in-a) → let fields = words_of c.args.line.now in
    c.alterations_in-a.result ≡ alterations_in (word_of fields 4) (word_of fields 5) (word_of fields 6)
alterations-are c =
    rw (
      c.word-3.ensures.answer,
      c.word-4.ensures.answer,
      c.word-5.ensures.answer,
    ) at c.alterations_in-a.ensures

pub overflow_cast-result : goal.overflow_cast-result
overflow_cast-result c =
    let most = decimal-at-most 5 65535 c.word-2.result.now in
    record { fits = rw c.version_in-version.ensures (omega (arith, most)) }

pub returns-then-a : goal.returns-then-a
returns-then-a c =
    let code_is = c.code_in-code.ensures.answer ∙ ap code_in c.word.ensures.answer in
    let version-is = c.version_in-version.ensures ∙ ap version_in c.word-2.ensures.answer in
    rw (← code_is, ← version-is, ← alterations-are (goal.at.returns-then-a c).After-alterations_in-a, c.if-code.true, c.if-version.true, c.if-a.true)

pub returns-else-a : goal.returns-else-a
returns-else-a c =
    let code_is = c.code_in-code.ensures.answer ∙ ap code_in c.word.ensures.answer in
    let version-is = c.version_in-version.ensures ∙ ap version_in c.word-2.ensures.answer in
    rw (← code_is, ← version-is, ← alterations-are (goal.at.returns-else-a c).After-alterations_in-a, c.if-code.true, c.if-version.true, c.if-a.false)

pub returns-else-version : goal.returns-else-version
returns-else-version c =
    let code_is = c.code_in-code.ensures.answer ∙ ap code_in c.word.ensures.answer in
    let version-is = c.version_in-version.ensures ∙ ap version_in c.word-2.ensures.answer in
    rw (← code_is, ← version-is, c.if-code.true, c.if-version.false)

pub returns-else-code : goal.returns-else-code
returns-else-code c =
    let code_is = c.code_in-code.ensures.answer ∙ ap code_in c.word.ensures.answer in
    rw (← code_is, c.if-code.false)
