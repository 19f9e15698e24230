-- The scratchpad is that of the family with the settings laid over it; the rest is as the definition gives it.
use Rattle.device.proofs.power_and_finishes.powered_up.Goals as goal

pub returns : goal.returns
returns c =
    record { answer = simp (← c.row_of-row.ensures.answer, c.with_settings-scratchpad.ensures.answer) }
