-- By the test of the field.
use mathlib.Core.Path.{ap, ◌∙◌}
use Rattle.lines.specs.Fields.{bit_in}
use Rattle.bench_requests.proofs.calls.slot.Goals as goal

pub returns-then-bit : goal.returns-then-bit
returns-then-bit c =
    let read = c.bit_in-bit.ensures.answer ∙ ap bit_in c.word.ensures.answer in
    simp (← read, c.if-bit.true)

pub returns : goal.returns
returns c =
    let read = c.bit_in-bit.ensures.answer ∙ ap bit_in c.word.ensures.answer in
    simp (← read, c.if-bit.false)
