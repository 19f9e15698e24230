-- By the definition's own tests.
use Rattle.lines.specs.Fields.{power_in}
use Rattle.lines.proofs.fields.power_in.Goals as goal

pub returns-then-same : goal.returns-then-same
unfolding power_in
returns-then-same c =
    record { answer = simp (← c.same.ensures.answer, c.if-same.true) }

pub returns : goal.returns
unfolding power_in
returns c =
    record { answer = simp (← c.same.ensures.answer, c.if-same.false, c.same-2.ensures.answer) }
