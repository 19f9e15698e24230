-- The settings are those of the scratchpad, for the row of the code.
use Rattle.device.proofs.function_commands.copying.Goals as goal

pub returns : goal.returns
returns c =
    record { answer = simp (c.with_activity.ensures.answer, c.settings_in-latched.ensures.answer, c.row_of.ensures.answer) }
