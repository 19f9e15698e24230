-- By the test of the field.
use mathlib.Core.Path.{ap, ◌∙◌}
use Rattle.lines.specs.Fields.{code_in}
use Rattle.bench_requests.proofs.settings_requests.remove.Goals as goal

pub returns-then-code : goal.returns-then-code
returns-then-code c =
    let read = c.code_in-code.ensures.answer ∙ ap code_in c.word.ensures.answer in
    simp (← read, c.if-code.true)

pub returns : goal.returns
returns c =
    let read = c.code_in-code.ensures.answer ∙ ap code_in c.word.ensures.answer in
    simp (← read, c.if-code.false)
