-- One return for each stage.
use Rattle.packed_bench.proofs.record_parts.stage_case.Goals as goal

pub returns-in-AwaitRom : goal.returns-in-AwaitRom
returns-in-AwaitRom c =
    record { answer = simp c.in-AwaitRom.is }

pub returns-in-SendRom : goal.returns-in-SendRom
returns-in-SendRom c =
    record { answer = simp c.in-SendRom.is }

pub returns-in-Match : goal.returns-in-Match
returns-in-Match c =
    record { answer = simp c.in-Match.is }

pub returns-in-Search : goal.returns-in-Search
returns-in-Search c =
    record { answer = simp (c.in-Search.is, c.phase_byte.ensures.answer) }

pub returns-in-AwaitFunction : goal.returns-in-AwaitFunction
returns-in-AwaitFunction c =
    record { answer = simp c.in-AwaitFunction.is }

pub returns-in-TakeSettings : goal.returns-in-TakeSettings
returns-in-TakeSettings c =
    record { answer = simp c.in-TakeSettings.is }

pub returns-in-SendScratchpad : goal.returns-in-SendScratchpad
returns-in-SendScratchpad c =
    record { answer = simp c.in-SendScratchpad.is }

pub returns-in-SendStatus : goal.returns-in-SendStatus
returns-in-SendStatus c =
    record { answer = simp c.in-SendStatus.is }

pub returns-in-SendPower : goal.returns-in-SendPower
returns-in-SendPower c =
    record { answer = simp c.in-SendPower.is }

pub returns-in-Quiet : goal.returns-in-Quiet
returns-in-Quiet c =
    record { answer = simp c.in-Quiet.is }
