-- The temperature register, scratchpad bytes 0 and 1: a 16-bit two's complement number, low byte first.
--     unit_of r, count_of r        a reading by its values: the unit that it is counted in, and how many of them
--     reading_with unit z         the reading with these values
--     count_bytes z               the sixteen bits of a number as two bytes
--     register_of r               the two bytes of a reading
--     raw_reading unit low high   the reading that all sixteen bits of two bytes make, in the unit of the family
--     cleared_of r configuration  a reading without the bits that its configuration leaves undefined: sixteenths are
--                                rounded down to the step, half degrees stay
--     reading_of unit low high configuration
--                                the reading that two bytes hold: the raw one, cleared
use Rattle.std.specs.Prelude.{ℕ, ◌+◌, ◌*◌, ◌/◌, ◌%◌, ℤ}
use Rattle.family.specs.declared.Unit.{Unit}
use Rattle.family.specs.declared.Unit.TheVariants.{Sixteenths as inSixteenths, HalfDegrees as inHalfDegrees}
use Rattle.basic_laws.specs.Complement.{signed16, bits16}
use Rattle.temperature.specs.declared.Reading.{Reading}
use Rattle.temperature.specs.declared.Reading.TheVariants.{InSixteenths, InHalves}
use Rattle.temperature.specs.declared.Register.{Register}
use Rattle.temperature.specs.Measured.{rounded_of}

abbrev pub unit_of : Reading → Unit
unit_of (InSixteenths c) = inSixteenths
unit_of (InHalves h) = inHalfDegrees

abbrev pub count_of : Reading → ℤ
count_of (InSixteenths c) = c.0
count_of (InHalves h) = h.0

abbrev pub reading_with : Unit → ℤ → Reading
reading_with inSixteenths z = InSixteenths (record { 0 = z })
reading_with inHalfDegrees z = InHalves (record { 0 = z })

abbrev pub count_bytes : ℤ → Register
count_bytes z = record { low = bits16 z % 256; high = bits16 z / 256 }

abbrev pub register_of : Reading → Register
register_of r = count_bytes (count_of r)

abbrev pub raw_reading : Unit → ℕ → ℕ → Reading
raw_reading unit low high = reading_with unit (signed16 (low + 256 * high))

-- below the step of nine bits are bits 0 to 2, of ten bits 0 and 1, of eleven bit 0; the makers call them undefined
abbrev pub cleared_of : Reading → ℕ → Reading
cleared_of (InSixteenths c) configuration = InSixteenths (rounded_of c configuration)
cleared_of (InHalves h) configuration = InHalves h

abbrev pub reading_of : Unit → ℕ → ℕ → ℕ → Reading
reading_of unit low high configuration = cleared_of (raw_reading unit low high) configuration
