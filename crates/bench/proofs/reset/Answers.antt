-- On a free wire and on one that is held.
use Rattle.bench.specs.Slot.{restarted, reset_done}
use Rattle.bench.proofs.reset.Goals as goal

pub returns-then-is_free : goal.returns-then-is_free
unfolding reset_done restarted
returns-then-is_free c =
    record { answer = simp (← c.is_free.ensures.answer, c.if-is_free.true, ← c.restart_all-next.ensures.answer) }

pub returns : goal.returns
unfolding reset_done
returns c =
    record { answer = simp (← c.is_free.ensures.answer, c.if-is_free.false) }
