-- The parts of a device's record as bytes, and the part that bytes hold.
--     truth_byte t, power_byte p, phase_byte p, unit_byte r      one byte: the number of the case, in the order of the
--                                                            enum; a truth is 1
--     stage_case s, activity_case a                            four bytes: the number of the case, and the numbers that
--                                                            it holds, with 0 after them
--     power_of, phase_of, unit_at, stage_of, activity_of          back: a number past the last case is taken as the last
--                                                            one, and what a case does not hold is not looked at
--     reading_from u low high                                 the reading of a unit's number and the two bytes of a
--                                                            register, all sixteen bits of them
-- Laws `..-back` in PartsLaws: each part comes back from its bytes.
use Rattle.std.specs.Prelude.{ℕ, Bool, true, false, List, [], ◌∷◌, get_or}
use Rattle.family.specs.declared.Unit.{Unit}
use Rattle.family.specs.declared.Unit.TheVariants.{Sixteenths as inSixteenths, HalfDegrees as inHalfDegrees}
use Rattle.temperature.specs.declared.Reading.{Reading}
use Rattle.temperature.specs.declared.Reading.TheVariants.{InSixteenths, InHalves}
use Rattle.temperature.specs.Register.{raw_reading}
use Rattle.device.specs.declared.Activity.{Activity}
use Rattle.device.specs.declared.Activity.TheVariants.{Idle, Converting, Copying}
use Rattle.device.specs.declared.Phase.{Phase}
use Rattle.device.specs.declared.Phase.TheVariants.{SendBit, SendComplement, TakeBit}
use Rattle.device.specs.declared.Power.{Power}
use Rattle.device.specs.declared.Power.TheVariants.{Line, External}
use Rattle.device.specs.declared.Stage.{Stage}
use Rattle.device.specs.declared.Stage.TheVariants.{AwaitRom, SendRom, Match, Search, AwaitFunction, TakeSettings}
use Rattle.device.specs.declared.Stage.TheVariants.{SendScratchpad, SendStatus, SendPower, Quiet}
use Rattle.packed_bench.specs.declared.record_parts.Case.{Case}

abbrev pub truth_byte : Bool → ℕ
truth_byte true = 1
truth_byte false = 0

abbrev pub power_byte : Power → ℕ
power_byte Line = 0
power_byte External = 1

abbrev pub power_of : ℕ → Power
power_of n = get_or (Line ∷ []) n External

abbrev pub phase_byte : Phase → ℕ
phase_byte SendBit = 0
phase_byte SendComplement = 1
phase_byte TakeBit = 2

abbrev pub phase_of : ℕ → Phase
phase_of n = get_or (SendBit ∷ SendComplement ∷ []) n TakeBit

abbrev pub unit_byte : Reading → ℕ
unit_byte (InSixteenths c) = 0
unit_byte (InHalves h) = 1

abbrev pub unit_at : ℕ → Unit
unit_at n = get_or (inSixteenths ∷ []) n inHalfDegrees

abbrev pub reading_from : ℕ → ℕ → ℕ → Reading
reading_from u low high = raw_reading (unit_at u) low high

abbrev pub case_of : ℕ → ℕ → ℕ → ℕ → Case
case_of tag a b c = record { 0 = tag; 1 = a; 2 = b; 3 = c }

abbrev pub stage_case : Stage → Case
stage_case (AwaitRom shift count) = case_of 0 shift count 0
stage_case (SendRom i) = case_of 1 i 0 0
stage_case (Match i) = case_of 2 i 0 0
stage_case (Search i phase) = case_of 3 i (phase_byte phase) 0
stage_case (AwaitFunction shift count) = case_of 4 shift count 0
stage_case (TakeSettings place shift count) = case_of 5 place shift count
stage_case (SendScratchpad byte bit) = case_of 6 byte bit 0
stage_case SendStatus = case_of 7 0 0 0
stage_case SendPower = case_of 8 0 0 0
stage_case Quiet = case_of 9 0 0 0

-- by its number, the stages but the last
abbrev pub stages : ℕ → ℕ → ℕ → List Stage
stages a b c =
    AwaitRom a b ∷ SendRom a ∷ Match a ∷ Search a (phase_of b) ∷ AwaitFunction a b ∷ TakeSettings a b c
    ∷ SendScratchpad a b ∷ SendStatus ∷ SendPower ∷ []

abbrev pub stage_of : Case → Stage
stage_of x = get_or (stages x.1 x.2 x.3) x.0 Quiet

abbrev pub activity_case : Activity → Case
activity_case Idle = case_of 0 0 0 0
activity_case Converting = case_of 1 0 0 0
activity_case (Copying s) = case_of 2 s.high s.low s.configuration

abbrev pub activity_of : Case → Activity
activity_of x = get_or (Idle ∷ Converting ∷ []) x.0 (Copying (record { high = x.1; low = x.2; configuration = x.3 }))
