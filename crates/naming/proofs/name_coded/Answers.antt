-- The code's own refusal decides.
use borrow.Author.Tests.{eq-eqb, ne_eqb}
use Rattle.naming.proofs.name_coded.Goals as goal

pub returns-then-refusal-ne-ACCEPTED : goal.returns-then-refusal-ne-ACCEPTED
returns-then-refusal-ne-ACCEPTED c =
    simp (← c.refusal_of-refusal.ensures.answer, ne_eqb _ _ c.if-refusal-ne-ACCEPTED.true, c.refuse.ensures.answer)

pub returns : goal.returns
returns c =
    simp (← c.refusal_of-refusal.ensures.answer, eq-eqb _ _ c.if-refusal-ne-ACCEPTED.false)
