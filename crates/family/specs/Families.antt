-- What differs between the families, as one table: the scope's "S" (family 10h) and "B" (family 28h), and the DS1825
-- (family 3Bh), which is B with four address pins.
--     ds18s20, ds18b20, ds1825      the family codes
--     row_s, row_b, row_pinned         their rows; row_unknown, the row of a family that is none of ours, which says so and
--                                   has zeros
--     rows                          the whole table
--     properties_of f                the row of family f
--     with_pins row pins             the row of one device: where the family has pins, these are the low four bits of
--                                   its configuration
--     kept_pins row pins             the pins that a device keeps: 0 where the family has none
--     pins_wrong row pins            whether a device cannot have these pins: over 15, where the family has any
-- The scratchpad at power-up is the scope's, with zeros in the places of the settings that come from EEPROM.
use Rattle.std.specs.Prelude.{ℕ, Bool, true, false, ◌&&◌, List, [], ◌∷◌, eqb, ltb}
use Rattle.std.specs.Prelude.{if◌then◌else◌}
use Rattle.family.specs.declared.Properties.{Properties}
use Rattle.family.specs.declared.Unit.TheVariants.{Sixteenths, HalfDegrees}

abbrev pub ds18s20 : ℕ
ds18s20 = 0x10

abbrev pub ds18b20 : ℕ
ds18b20 = 0x28

abbrev pub ds1825 : ℕ
ds1825 = 0x3B

-- two limits, half degrees
abbrev pub row_s : Properties
row_s = record {
  known = true;
  configurable = false;
  pinned = false;
  unit = HalfDegrees;
  nibble = 0;
  initial = 0xAA ∷ 0x00 ∷ 0 ∷ 0 ∷ 0xFF ∷ 0xFF ∷ 0x0C ∷ 0x10 ∷ [];
}

-- two limits and a configuration, sixteenths
abbrev pub row_b : Properties
row_b = record {
  known = true;
  configurable = true;
  pinned = false;
  unit = Sixteenths;
  nibble = 0x0F;
  initial = 0x50 ∷ 0x05 ∷ 0 ∷ 0 ∷ 0 ∷ 0xFF ∷ 0x0C ∷ 0x10 ∷ [];
}

-- as B, with pins
abbrev pub row_pinned : Properties
row_pinned = record {
  known = true;
  configurable = true;
  pinned = true;
  unit = Sixteenths;
  nibble = 0;
  initial = row_b.initial;
}

abbrev pub row_unknown : Properties
row_unknown = record {
  known = false;
  configurable = false;
  pinned = false;
  unit = Sixteenths;
  nibble = 0;
  initial = 0 ∷ 0 ∷ 0 ∷ 0 ∷ 0 ∷ 0 ∷ 0 ∷ 0 ∷ [];
}

abbrev pub rows : List Properties
rows = row_s ∷ row_b ∷ row_pinned ∷ row_unknown ∷ []

abbrev pub properties_of : ℕ → Properties
properties_of f = if eqb f ds18s20 then row_s else if eqb f ds18b20 then row_b else if eqb f ds1825 then row_pinned
    else row_unknown

abbrev pub with_pins : Properties → ℕ → Properties
with_pins row pins = record {
  known = row.known;
  configurable = row.configurable;
  pinned = row.pinned;
  unit = row.unit;
  nibble = if row.pinned then pins else row.nibble;
  initial = row.initial;
}

abbrev pub kept_pins : Properties → ℕ → ℕ
kept_pins row pins = if row.pinned then pins else 0

abbrev pub pins_wrong : Properties → ℕ → Bool
pins_wrong row pins = row.pinned && ltb 15 pins
