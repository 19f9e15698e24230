-- The device record with one part replaced, and what is read off it.
--     with_stage d s, with_activity d a, with_scratchpad d p, with_eeprom d s, with_alarm d a, with_page d p
--                      the record with that part replaced, all else as it was
--     family_row code   the properties of the code's family
--     row_of code pins  those of one device of the family, with its pins
--     from_line p       whether a power kind is the scope's "line-powered", from the data wire
--     busy_with a       whether an activity keeps a device busy; busy d, whether a conversion or a copy is under way
--     holds_wire d      a busy device that is powered from the data wire: no slot can pass
use Rattle.std.specs.Prelude.{ℕ, Bool, true, false, ◌&&◌, List}
use Rattle.family.specs.Families.{properties_of, with_pins}
use Rattle.family.specs.declared.Properties.{Properties}
use Rattle.rom.specs.Code.{family_of}
use Rattle.device.specs.declared.Activity.{Activity}
use Rattle.device.specs.declared.Activity.TheVariants.{Idle, Converting, Copying}
use Rattle.device.specs.declared.Device.{Device}
use Rattle.device.specs.declared.Page.{Page}
use Rattle.device.specs.declared.Power.{Power}
use Rattle.device.specs.declared.Power.TheVariants.{Line, External}
use Rattle.device.specs.declared.Settings.{Settings}
use Rattle.device.specs.declared.Stage.{Stage}

abbrev pub with_stage : Device → Stage → Device
with_stage d s = record {
  code = d.code;
  power = d.power;
  stage = s;
  activity = d.activity;
  scratchpad = d.scratchpad;
  eeprom = d.eeprom;
  alarm = d.alarm;
  page = d.page;
  pins = d.pins;
}

abbrev pub with_activity : Device → Activity → Device
with_activity d a = record {
  code = d.code;
  power = d.power;
  stage = d.stage;
  activity = a;
  scratchpad = d.scratchpad;
  eeprom = d.eeprom;
  alarm = d.alarm;
  page = d.page;
  pins = d.pins;
}

abbrev pub with_scratchpad : Device → List ℕ → Device
with_scratchpad d p = record {
  code = d.code;
  power = d.power;
  stage = d.stage;
  activity = d.activity;
  scratchpad = p;
  eeprom = d.eeprom;
  alarm = d.alarm;
  page = d.page;
  pins = d.pins;
}

abbrev pub with_eeprom : Device → Settings → Device
with_eeprom d s = record {
  code = d.code;
  power = d.power;
  stage = d.stage;
  activity = d.activity;
  scratchpad = d.scratchpad;
  eeprom = s;
  alarm = d.alarm;
  page = d.page;
  pins = d.pins;
}

abbrev pub with_alarm : Device → Bool → Device
with_alarm d a = record {
  code = d.code;
  power = d.power;
  stage = d.stage;
  activity = d.activity;
  scratchpad = d.scratchpad;
  eeprom = d.eeprom;
  alarm = a;
  page = d.page;
  pins = d.pins;
}

abbrev pub with_page : Device → Page → Device
with_page d p = record {
  code = d.code;
  power = d.power;
  stage = d.stage;
  activity = d.activity;
  scratchpad = d.scratchpad;
  eeprom = d.eeprom;
  alarm = d.alarm;
  page = p;
  pins = d.pins;
}

abbrev pub family_row : ℕ → Properties
family_row code = properties_of (family_of code)

unfoldable pub row_of : ℕ → ℕ → Properties
row_of code pins = with_pins (family_row code) pins

abbrev pub from_line : Power → Bool
from_line Line = true
from_line External = false

abbrev pub busy_with : Activity → Bool
busy_with Idle = false
busy_with Converting = true
busy_with (Copying s) = true

abbrev pub busy : Device → Bool
busy d = busy_with d.activity

abbrev pub holds_wire : Device → Bool
holds_wire d = from_line d.power && busy d
