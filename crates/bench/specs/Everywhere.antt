-- What no slot, reset, power cycle or finish takes from a device holds of each device of a bench after every call, if
-- it held before: laws `..-each`.
--     Invariant P      nothing that can happen to a device takes P from it
use Rattle.std.specs.Prelude.{◌≡◌, Bool, true}
use Rattle.temperature.specs.Range.{in_range}
use Rattle.temperature.specs.declared.Reading.TheVariants.{InSixteenths}
use Rattle.temperature.specs.declared.Sixteenths.{Sixteenths}
use Rattle.device.specs.Finish.{conversion_done, copy_done}
use Rattle.device.specs.Hear.{hear_of}
use Rattle.device.specs.Power.{reset_of, power_up}
use Rattle.device.specs.declared.Activity.TheVariants.{Copying}
use Rattle.device.specs.declared.Device.{Device}
use Rattle.device.specs.declared.Settings.{Settings}

pub record Invariant (P : Device → Type 0) : Type 0 where
  pub by-slot : (d : Device) (l : Bool) → P d → P (hear_of d l)
  pub by-reset : (d : Device) → P d → P (reset_of d)
  pub by-power : (d : Device) → P d → P (power_up d)
  pub by-conversion : (d : Device) (n : Sixteenths) → in_range (InSixteenths n) ≡ true → P d → P (conversion_done d n)
  pub by_copy : (d : Device) (s : Settings) → d.activity ≡ Copying s → P d → P (copy_done d s)
