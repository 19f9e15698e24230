-- By the tests of both fields.
use mathlib.Core.Path.{ap, ◌∙◌}
use Rattle.lines.specs.Fields.{code_in, count_in}
use Rattle.bench_requests.proofs.calls.converted.Goals as goal

pub returns-then-read : goal.returns-then-read
returns-then-read c =
    let first = c.code_in-code.ensures.answer
    ∙ ap code_in c.word.ensures.answer in let second =
    c.count_in-read.ensures.answer ∙ ap count_in c.word-2.ensures.answer in
    rw (← first, ← second, c.if-code.true, c.if-read.true)

pub returns-else-read : goal.returns-else-read
returns-else-read c =
    let first = c.code_in-code.ensures.answer
    ∙ ap code_in c.word.ensures.answer in let second =
    c.count_in-read.ensures.answer ∙ ap count_in c.word-2.ensures.answer in
    rw (← first, ← second, c.if-code.true, c.if-read.false)

pub returns-else-code : goal.returns-else-code
returns-else-code c =
    let first = c.code_in-code.ensures.answer
    ∙ ap code_in c.word.ensures.answer in let second =
    c.count_in-read.ensures.answer ∙ ap count_in c.word-2.ensures.answer in
    rw (← first, c.if-code.false)
