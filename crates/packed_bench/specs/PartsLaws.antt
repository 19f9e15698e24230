-- Each part of a record comes back from its bytes: `..-back`.
--     reading-in             two bytes make a reading of sixteen bits
--     reading-cleared        at twelve bits nothing of a reading is cleared
--     nonzero, past          a number past the last case but one
use Rattle.std.specs.Prelude.{ℕ, ◌+◌, ◌<◌, ◌≤◌, ◌*◌, ◌≡◌, refl, Bool, true, false, eqb}
use Rattle.std.proofs.Common.{arith}
use Rattle.family.specs.declared.Unit.{Unit}
use Rattle.family.specs.declared.Unit.TheVariants.{Sixteenths as inSixteenths, HalfDegrees as inHalfDegrees}
use Rattle.basic_laws.specs.Complement.{Fits16}
use Rattle.basic_laws.proofs.ComplementLaws.{signed-fits}
use Rattle.basic_laws.proofs.RoundingLaws.{floor-one}
use Rattle.temperature.specs.declared.Reading.{Reading}
use Rattle.temperature.specs.declared.Reading.TheVariants.{InSixteenths, InHalves}
use Rattle.temperature.specs.Register.{unit_of, count_of, raw_reading, register_of, cleared_of}
use Rattle.temperature.specs.RegisterLaws.{reading-register}
use Rattle.device.specs.declared.Activity.{Activity}
use Rattle.device.specs.declared.Activity.TheVariants.{Idle, Converting, Copying}
use Rattle.device.specs.declared.Phase.{Phase}
use Rattle.device.specs.declared.Phase.TheVariants.{SendBit, SendComplement, TakeBit}
use Rattle.device.specs.declared.Power.{Power}
use Rattle.device.specs.declared.Power.TheVariants.{Line, External}
use Rattle.device.specs.declared.Stage.{Stage}
use Rattle.device.specs.declared.Stage.TheVariants.{AwaitRom, SendRom, Match, Search, AwaitFunction, TakeSettings}
use Rattle.device.specs.declared.Stage.TheVariants.{SendScratchpad, SendStatus, SendPower, Quiet}
use Rattle.packed_bench.specs.Parts.{truth_byte, power_byte, power_of, phase_byte, phase_of, unit_byte, unit_at}
use Rattle.packed_bench.specs.Parts.{reading_from, stage_case, stage_of, activity_case, activity_of}

pub truth-back : (t : Bool) → eqb (truth_byte t) 1 ≡ t
truth-back true = refl
truth-back false = refl

pub power-back : (p : Power) → power_of (power_byte p) ≡ p
power-back Line = refl
power-back External = refl

phase-back : (p : Phase) → phase_of (phase_byte p) ≡ p
phase-back SendBit = refl
phase-back SendComplement = refl
phase-back TakeBit = refl

unit-back : (r : Reading) → unit_at (unit_byte r) ≡ unit_of r
unit-back (InSixteenths c) = refl
unit-back (InHalves h) = refl

pub reading-back : (r : Reading) → Fits16 (count_of r)
    → reading_from (unit_byte r) (register_of r).low (register_of r).high ≡ r
reading-back r f = rw (unit-back r) (reading-register r f)

pub reading-cleared : (r : Reading) → cleared_of r 96 ≡ r
reading-cleared (InSixteenths c) = rw (floor-one c.0)
reading-cleared (InHalves h) = refl

pub reading-in : (u low high : ℕ) → low < 256 → high < 256 → Fits16 (count_of (reading_from u low high))
reading-in u low high h k = of-unit (unit_at u)
  where
    of-unit : (v : Unit) → Fits16 (count_of (raw_reading v low high))
    of-unit inSixteenths = signed-fits (low + 256 * high) (omega arith)
    of-unit inHalfDegrees = signed-fits (low + 256 * high) (omega arith)

pub stage-back : (s : Stage) → stage_of (stage_case s) ≡ s
stage-back (AwaitRom shift count) = refl
stage-back (SendRom i) = refl
stage-back (Match i) = refl
stage-back (Search i phase) = rw (phase-back phase)
stage-back (AwaitFunction shift count) = refl
stage-back (TakeSettings place shift count) = refl
stage-back (SendScratchpad byte bit) = refl
stage-back SendStatus = refl
stage-back SendPower = refl
stage-back Quiet = refl

pub activity-back : (a : Activity) → activity_of (activity_case a) ≡ a
activity-back Idle = refl
activity-back Converting = refl
activity-back (Copying s) = refl

-- ## A number past the last case but one

-- one number after another that it is not
pub nonzero : (n : ℕ) → (n ≡ 0 → ⊥) → 1 ≤ n
nonzero n e = omega arith

pub past : (n k : ℕ) → k ≤ n → (n ≡ k → ⊥) → k + 1 ≤ n
past n k h e = omega arith
