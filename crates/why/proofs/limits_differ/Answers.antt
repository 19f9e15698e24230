-- Byte by byte, as the definition compares them.
use borrow.Author.Tests.{ne_eqb, eq-eqb}
use Rattle.why.proofs.limits_differ.Goals as goal

pub returns-then-pad-page : goal.returns-then-pad-page
returns-then-pad-page c =
    simp (ne_eqb _ _ c.if-pad-page.true)

pub returns : goal.returns
returns c =
    simp (eq-eqb _ _ c.if-pad-page.false)
