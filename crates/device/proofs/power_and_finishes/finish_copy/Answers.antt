-- The two parts are replaced one after the other.
use Rattle.device.specs.Finish.{copy_done}
use Rattle.device.proofs.power_and_finishes.finish_copy.Goals as goal

pub returns : goal.returns
unfolding copy_done
returns c =
    record { answer = simp (c.with_eeprom.ensures.answer, c.with_activity.ensures.answer) }
