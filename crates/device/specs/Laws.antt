-- What can change what in a device (the scope, "One slot"). A slot never touches code, power, EEPROM, alarm flag or
-- page; power, the end of a conversion and the end of a copy each change what they are for.
--     hear-..                   what a slot keeps at every stage
--     only_moves s               whether a slot in stage s moves nothing but the stage: law `hear-only-stage`
--     AtLastBit d               the next slot of d ends a function command: the only one that can make it busy, law
--                               `hear-starts`
--     quiet-..                  a quiet device stays as it is and leaves the line alone
--     Fresh code power d        d as power finds it: laws `power-up-fresh` and `joined-fresh`
--     conversion-.., copy-..    what these keep, and what the attempt to end them comes to
use Rattle.std.specs.Prelude.{ℕ, ◌≡◌, Bool, true, false}
use Rattle.device.specs.declared.Activity.TheVariants.{Idle}
use Rattle.device.specs.declared.Device.{Device}
use Rattle.device.specs.declared.Power.{Power}
use Rattle.device.specs.declared.Stage.{Stage}
use Rattle.device.specs.declared.Stage.TheVariants.{AwaitRom, SendRom, Match, Search, AwaitFunction}
use Rattle.device.specs.declared.Stage.TheVariants.{TakeSettings, SendScratchpad, SendStatus, SendPower, Quiet}
use Rattle.device.specs.Power.{empty_page}

-- A device that a slot has made busy stood at the last bit of a function command.
pub record AtLastBit (d : Device) : Type 0 where
  pub shift : ℕ
  pub stage_is : d.stage ≡ AwaitFunction shift 7

-- Stages in which a slot moves nothing but the stage: all but those that take a function command or the bytes of 4Eh.
abbrev pub only_moves : Stage → Bool
only_moves (AwaitRom s n) = true
only_moves (SendRom i) = true
only_moves (Match i) = true
only_moves (Search i p) = true
only_moves (AwaitFunction s n) = false
only_moves (TakeSettings k s n) = false
only_moves (SendScratchpad k j) = true
only_moves SendStatus = true
only_moves SendPower = true
only_moves Quiet = true

-- ## Power

-- What power finds: the device is idle and quiet, its flag clear, its page empty.
pub record Fresh (code : ℕ) (power : Power) (d : Device) : Type 0 where
  pub code_is : d.code ≡ code
  pub power-is : d.power ≡ power
  pub quiet : d.stage ≡ Quiet
  pub idle : d.activity ≡ Idle
  pub flag-clear : d.alarm ≡ false
  pub page-empty : d.page ≡ empty_page
