-- The code's tests are the definition's.
use borrow.Author.Tests.{eq-eqb, ne_eqb}
use Rattle.naming.proofs.is_pass.Goals as goal

pub returns-then-f-ne-PASS_SLOTS : goal.returns-then-f-ne-PASS_SLOTS
returns-then-f-ne-PASS_SLOTS c =
    simp (ne_eqb _ _ c.if-f-ne-PASS_SLOTS.true)

pub returns : goal.returns
returns c =
    simp (eq-eqb _ _ c.if-f-ne-PASS_SLOTS.false)
