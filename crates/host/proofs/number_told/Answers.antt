-- By the definition's own test.
use borrow.Author.Tests.{eq-eqb, ne_eqb}
use Rattle.host.proofs.number_told.Goals as goal

pub returns-then-refusal-ne-ACCEPTED : goal.returns-then-refusal-ne-ACCEPTED
returns-then-refusal-ne-ACCEPTED c =
    simp (ne_eqb _ _ c.if-refusal-ne-ACCEPTED.true)

pub returns : goal.returns
returns c =
    simp (eq-eqb _ _ c.if-refusal-ne-ACCEPTED.false, c.number_of.ensures.answer)
