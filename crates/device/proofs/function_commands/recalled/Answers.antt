-- The settings of EEPROM go over the scratchpad, for the row of the code.
use Rattle.device.proofs.function_commands.recalled.Goals as goal

pub returns : goal.returns
returns c =
    record { answer = simp (c.with_scratchpad.ensures.answer, c.with_settings.ensures.answer, c.row_of.ensures.answer) }
