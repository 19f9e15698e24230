-- What holds of every device that the calls reach (the scope, "One slot" and "Temperatures"): the configuration of a
-- family that has one is in its stored form wherever it is kept, the stored reading is in range, the counts behind it
-- can be believed, and the flag is the verdict on the page.
--     verdict_on page          whether a page is not empty and its reading is at or past a limit of the page
--     PadSound row pad        what holds of a scratchpad
--     Sound d                 what holds of a device
-- Laws: `joined-sound` for a new device, and one for each thing that can happen to a device.
use Rattle.std.specs.Prelude.{ℕ, ◌≡◌, Bool, true, ◌&&◌, List, length, get_or}
use Rattle.family.specs.Configuration.{as_kept}
use Rattle.family.specs.Layout.{configuration_place}
use Rattle.family.specs.declared.Properties.{Properties}
use Rattle.temperature.specs.Range.{in_range}
use Rattle.temperature.specs.Alarm.{verdict}
use Rattle.scratchpad.specs.Judgement.{counts_believed}
use Rattle.scratchpad.specs.Stored.{raw_in}
use Rattle.device.specs.declared.Activity.{Activity}
use Rattle.device.specs.declared.Activity.TheVariants.{Idle, Converting, Copying}
use Rattle.device.specs.declared.Device.{Device}
use Rattle.device.specs.declared.Page.{Page}
use Rattle.device.specs.Record.{row_of}

abbrev pub verdict_on : Page → Bool
verdict_on page = page.taken && verdict page.reading page.high page.low

-- the settings that a copy holds
abbrev pub copy_as_kept : Properties → Activity → Bool
copy_as_kept row Idle = true
copy_as_kept row Converting = true
copy_as_kept row (Copying s) = as_kept row s.configuration

pub record PadSound (row : Properties) (pad : List ℕ) : Type 0 where
  pub eight : length pad ≡ 8
  pub as-kept : as_kept row (get_or pad configuration_place 0) ≡ true
  pub in-range : in_range (raw_in row pad) ≡ true
  pub counts-believed : counts_believed row pad ≡ true

pub record Sound (d : Device) : Type 0 where
  pub pad-sound : PadSound (row_of d.code d.pins) d.scratchpad
  pub eeprom-as-kept : as_kept (row_of d.code d.pins) d.eeprom.configuration ≡ true
  pub copy-as-kept : copy_as_kept (row_of d.code d.pins) d.activity ≡ true
  pub flag_is : d.alarm ≡ verdict_on d.page
