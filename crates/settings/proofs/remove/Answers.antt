-- The code is there, or not.
use Rattle.settings.specs.Calls.{settings_removed}
use borrow.Author.Tests.{eq-eqb, ne_eqb}
use Rattle.settings.proofs.remove.Goals as goal

pub returns-then-found-ne-ACCEPTED : goal.returns-then-found-ne-ACCEPTED
unfolding settings_removed
returns-then-found-ne-ACCEPTED c =
    record { answer = simp (← c.locate-found.ensures.answer, ne_eqb _ _ c.if-found-ne-ACCEPTED.true) }

pub returns : goal.returns
unfolding settings_removed
returns c =
    record { answer = simp (← c.locate-found.ensures.answer, eq-eqb _ _ c.if-found-ne-ACCEPTED.false, c.put.ensures) }
