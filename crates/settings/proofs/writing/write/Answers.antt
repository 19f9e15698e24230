-- The store's refusal, or the write.
use Rattle.settings.specs.Written.{settings_written}
use borrow.Author.Tests.{eq-eqb, ne_eqb}
use Rattle.settings.proofs.writing.write.Goals as goal

pub returns-then-current-ne-ACCEPTED : goal.returns-then-current-ne-ACCEPTED
unfolding settings_written
returns-then-current-ne-ACCEPTED c =
    record { answer = simp (← c.read-current.ensures.answer, ne_eqb _ _ c.if-current-ne-ACCEPTED.true, c.refuse.ensures.answer) }

pub returns : goal.returns
unfolding settings_written
returns c =
    record { answer = simp (← c.read-current.ensures.answer, eq-eqb _ _ c.if-current-ne-ACCEPTED.false, c.write_at.ensures.answer) }
