-- Reset, power-up and joining the bench (the scope, "One slot").
--     reset_of d          a reset: the device listens for a ROM command; nothing else changes
--     power_up d          the device as power finds it: scratchpad of its family with the settings of its EEPROM, flag
--                        clear, not busy, quiet, page empty
--     joined new         a new device, powered up; pins that its family has not are not kept
-- Power in the middle of a copy leaves the EEPROM as it was before (house).
use Rattle.std.specs.Prelude.{ℕ, false, pos}
use Rattle.family.specs.Configuration.{kept_configuration}
use Rattle.family.specs.Families.{kept_pins}
use Rattle.temperature.specs.declared.Reading.TheVariants.{InSixteenths}
use Rattle.device.specs.declared.Activity.TheVariants.{Idle}
use Rattle.device.specs.declared.Device.{Device}
use Rattle.device.specs.declared.Joining.{Joining}
use Rattle.device.specs.declared.Page.{Page}
use Rattle.device.specs.declared.Power.{Power}
use Rattle.device.specs.declared.Settings.{Settings}
use Rattle.device.specs.declared.Stage.TheVariants.{Quiet}
use Rattle.device.specs.Record.{with_stage, family_row, row_of}
use Rattle.device.specs.Settings.{with_settings}
use Rattle.device.specs.Hear.{await_rom}

abbrev pub reset_of : Device → Device
reset_of d = with_stage d await_rom

-- the scope's page with nothing on it
abbrev pub empty_page : Page
empty_page = record { taken = false; reading = InSixteenths (record { 0 = pos 0 }); high = 0; low = 0 }

abbrev pub powered_up : ℕ → Power → ℕ → Settings → Device
powered_up code power pins eeprom = record {
  code = code;
  power = power;
  stage = Quiet;
  activity = Idle;
  scratchpad = with_settings (row_of code pins) (row_of code pins).initial eeprom;
  eeprom = eeprom;
  alarm = false;
  page = empty_page;
  pins = pins;
}

unfoldable pub power_up : Device → Device
power_up d = powered_up d.code d.power d.pins d.eeprom

unfoldable pub joined : Joining → Device
joined new =
    let pins = kept_pins (family_row new.code) new.pins in
    powered_up new.code new.power pins
    (record {
      high = new.high;
      low = new.low;
      configuration = kept_configuration (row_of new.code pins) new.configuration;
    })
