-- The settings of a device: the two limits, and for a family with a configuration that byte too. They stand in the
-- scratchpad from place 2 on, and are written, copied and recalled together, so that whoever writes one writes its
-- neighbours.
--     settings_in row pad        the settings of a scratchpad; configuration 0 where the family has none
--     with_settings row pad s    the scratchpad with the settings s, the configuration in its stored form
--     settings_count row         how many bytes they are: 2, or 3 with a configuration
--     setting_byte row k byte    the byte as it is stored as setting k: the third, 2, is the configuration
use Rattle.std.specs.Prelude.{ℕ, List, eqb, get_or, set}
use Rattle.std.specs.Prelude.{if◌then◌else◌}
use Rattle.family.specs.Configuration.{kept_configuration}
use Rattle.family.specs.Layout.{high_limit_place, low_limit_place, configuration_place}
use Rattle.family.specs.declared.Properties.{Properties}
use Rattle.device.specs.declared.Settings.{Settings}

unfoldable pub settings_in : Properties → List ℕ → Settings
settings_in row pad = record {
  high = get_or pad high_limit_place 0;
  low = get_or pad low_limit_place 0;
  configuration = if row.configurable then get_or pad configuration_place 0 else 0;
}

abbrev pub with_limits : List ℕ → Settings → List ℕ
with_limits pad s = set (set pad high_limit_place s.high) low_limit_place s.low

unfoldable pub with_settings : Properties → List ℕ → Settings → List ℕ
with_settings row pad s =
    if row.configurable
    then set (with_limits pad s) configuration_place (kept_configuration row s.configuration)
    else with_limits pad s

abbrev pub settings_count : Properties → ℕ
settings_count row = if row.configurable then 3 else 2

abbrev pub setting_byte : Properties → ℕ → ℕ → ℕ
setting_byte row k byte = if eqb k 2 then kept_configuration row byte else byte
