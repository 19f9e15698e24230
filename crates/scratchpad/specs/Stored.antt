-- The temperature in a scratchpad (the scope, "Temperatures"): how it is read, and what the end of a conversion stores.
--     reading_in row pad               the reading of bytes 0 and 1, in the family's unit, without the bits that the
--                                     configuration in byte 4 leaves undefined
--     raw_in row pad                   the same with all sixteen bits
--     fine_in row pad                  the fine reading of that and the count bytes 6 and 7; none of a family that
--                                     counts sixteenths
--     stored_reading row count pad     the reading that a conversion of this count stores, with the configuration of
--                                     that moment
--     with_register pad r              a scratchpad with these two bytes of a reading
--     with_counts unit count pad       a scratchpad with the count bytes that a conversion in half degrees leaves; in
--                                     sixteenths it leaves them as they were
--     scratchpad_after row count pad   the eight bytes afterwards: that reading in bytes 0 and 1, the counts in bytes 6
--                                     and 7, all others as they were
use Rattle.std.specs.Prelude.{ℕ, List, get_or, set}
use Rattle.family.specs.Layout.{reading_low_place, reading_high_place, configuration_place, count_remain_place}
use Rattle.family.specs.Layout.{count_per_degree_place}
use Rattle.family.specs.declared.Properties.{Properties}
use Rattle.family.specs.declared.Unit.{Unit}
use Rattle.family.specs.declared.Unit.TheVariants.{Sixteenths as inSixteenths, HalfDegrees as inHalfDegrees}
use Rattle.temperature.specs.Measured.{measured_of}
use Rattle.temperature.specs.Register.{raw_reading, reading_of, register_of}
use Rattle.temperature.specs.declared.Reading.{Reading}
use Rattle.temperature.specs.declared.Register.{Register}
use Rattle.temperature.specs.declared.Sixteenths.{Sixteenths}
use Rattle.scratchpad.specs.Fine.{counts_per_degree, remaining_of, fine_of}
use Rattle.scratchpad.specs.declared.fine.FineDegrees.{FineDegrees}

abbrev pub reading_in : Properties → List ℕ → Reading
reading_in row pad = reading_of row.unit (get_or pad reading_low_place 0) (get_or pad reading_high_place 0)
    (get_or pad configuration_place 0)

abbrev pub raw_in : Properties → List ℕ → Reading
raw_in row pad = raw_reading row.unit (get_or pad reading_low_place 0) (get_or pad reading_high_place 0)

abbrev pub fine_in : Properties → List ℕ → FineDegrees
fine_in row pad = fine_of (reading_in row pad) (get_or pad count_remain_place 0) (get_or pad count_per_degree_place 0)

unfoldable pub stored_reading : Properties → Sixteenths → List ℕ → Reading
stored_reading row count pad = measured_of row.unit count (get_or pad configuration_place 0)

abbrev pub with_register : List ℕ → Register → List ℕ
with_register pad r = set (set pad reading_low_place r.low) reading_high_place r.high

abbrev pub with_counts : Unit → Sixteenths → List ℕ → List ℕ
with_counts inSixteenths count pad = pad
with_counts inHalfDegrees count pad = set (set pad count_remain_place (remaining_of count)) count_per_degree_place
    counts_per_degree

unfoldable pub scratchpad_after : Properties → Sixteenths → List ℕ → List ℕ
scratchpad_after row count pad = with_counts row.unit count
    (with_register pad (register_of (stored_reading row count pad)))
