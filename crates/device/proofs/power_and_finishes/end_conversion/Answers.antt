-- A device that converts, with a count in range and out of it; any other is refused.
use Rattle.device.specs.Finish.{conversion_ended}
use Rattle.device.proofs.power_and_finishes.end_conversion.Goals as goal

pub returns-then-in_range : goal.returns-then-in_range
unfolding conversion_ended
returns-then-in_range c =
    record {
      answer = simp (
        c.in-Converting.is,
        ← c.in_range.ensures.answer,
        c.if-in_range.true,
        ← c.finish_conversion.ensures.answer,
      );
    }

pub returns-in-Idle : goal.returns-in-Idle
unfolding conversion_ended
returns-in-Idle c =
    record { answer = simp (c.in-Idle.is, c.refuse.ensures.answer) }

pub returns-else-in_range : goal.returns-else-in_range
unfolding conversion_ended
returns-else-in_range c =
    record { answer = simp (c.in-Converting.is, ← c.in_range.ensures.answer, c.if-in_range.false, c.refuse-in-Converting.ensures.answer) }

pub returns-in-Copying : goal.returns-in-Copying
unfolding conversion_ended
returns-in-Copying c =
    record { answer = simp (c.in-Copying.is, c.refuse-in-Copying.ensures.answer) }
