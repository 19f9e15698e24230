-- A device that copies ends it with what it holds; any other is refused.
use Rattle.device.specs.Finish.{copy_ended}
use Rattle.device.proofs.power_and_finishes.end_copy.Goals as goal

pub returns-in-Idle : goal.returns-in-Idle
unfolding copy_ended
returns-in-Idle c =
    record { answer = simp (c.in-Idle.is, c.refuse.ensures.answer) }

pub returns-in-Converting : goal.returns-in-Converting
unfolding copy_ended
returns-in-Converting c =
    record { answer = simp (c.in-Converting.is, c.refuse-in-Converting.ensures.answer) }

pub returns-in-Copying : goal.returns-in-Copying
unfolding copy_ended
returns-in-Copying c =
    record { answer = simp (c.in-Copying.is, ← c.finish_copy.ensures.answer) }
