-- One return for each thing that can be held of a byte: a part, the whole, or nothing.
use Rattle.device.proofs.function_commands.hear_settings.Goals as goal

pub returns-in-Partial : goal.returns-in-Partial
returns-in-Partial c =
    record { answer = simp (c.in-Partial.is, c.with_stage.ensures.answer) }

pub returns-in-Whole : goal.returns-in-Whole
returns-in-Whole c =
    record { answer = simp (c.in-Whole.is, c.store_setting.ensures.answer) }

pub returns-in-Beyond : goal.returns-in-Beyond
returns-in-Beyond c =
    record { answer = simp (c.in-Beyond.is, c.with_stage-in-Beyond.ensures.answer) }
