-- One return for each stage, with what its own function says.
use Rattle.device.specs.Hear.{hear_of}
use Rattle.device.proofs.hearing.hear.Goals as goal

pub returns-in-AwaitRom : goal.returns-in-AwaitRom
unfolding hear_of
returns-in-AwaitRom c =
    record { answer = simp (c.in-AwaitRom.is, c.hear_rom.ensures.answer, c.shift_in.ensures.answer) }

pub returns-in-SendRom : goal.returns-in-SendRom
unfolding hear_of
returns-in-SendRom c =
    record { answer = simp (c.in-SendRom.is, ← c.after_send_rom.ensures.answer, c.with_stage.ensures.answer) }

pub returns-in-Match : goal.returns-in-Match
unfolding hear_of
returns-in-Match c =
    record { answer = simp (c.in-Match.is, ← c.after_match.ensures.answer, c.with_stage-in-Match.ensures.answer) }

pub returns-in-Search : goal.returns-in-Search
unfolding hear_of
returns-in-Search c =
    record { answer = simp (c.in-Search.is, ← c.after_search.ensures.answer, c.with_stage-in-Search.ensures.answer) }

pub returns-in-AwaitFunction : goal.returns-in-AwaitFunction
unfolding hear_of
returns-in-AwaitFunction c =
    record { answer = simp (c.in-AwaitFunction.is, c.hear_function.ensures.answer, c.shift_in-in-AwaitFunction.ensures.answer) }

pub returns-in-TakeSettings : goal.returns-in-TakeSettings
unfolding hear_of
returns-in-TakeSettings c =
    record { answer = simp (c.in-TakeSettings.is, c.hear_settings.ensures.answer, c.shift_in-in-TakeSettings.ensures.answer) }

pub returns-in-SendScratchpad : goal.returns-in-SendScratchpad
unfolding hear_of
returns-in-SendScratchpad c =
    record { answer = simp (c.in-SendScratchpad.is, ← c.after_scratchpad.ensures.answer, c.with_stage-in-SendScratchpad.ensures.answer) }

pub returns-in-SendStatus : goal.returns-in-SendStatus
unfolding hear_of
returns-in-SendStatus c =
    record { answer = simp c.in-SendStatus.is }

pub returns-in-SendPower : goal.returns-in-SendPower
unfolding hear_of
returns-in-SendPower c =
    record { answer = simp c.in-SendPower.is }

pub returns-in-Quiet : goal.returns-in-Quiet
unfolding hear_of
returns-in-Quiet c =
    record { answer = simp c.in-Quiet.is }
