-- A refusal is passed on; else the frame is named.
use borrow.Author.Tests.{eq-eqb, ne_eqb}
use Rattle.naming.proofs.name_read.Goals as goal

pub returns-then-refusal-ne-ACCEPTED : goal.returns-then-refusal-ne-ACCEPTED
returns-then-refusal-ne-ACCEPTED c =
    simp (ne_eqb _ _ c.if-refusal-ne-ACCEPTED.true, c.refuse.ensures.answer)

pub returns : goal.returns
returns c =
    simp (eq-eqb _ _ c.if-refusal-ne-ACCEPTED.false, c.name_frame.ensures.answer.0)
