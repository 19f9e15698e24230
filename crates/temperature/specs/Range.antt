-- The range of a reading, the scope's "A reading outside −55 to +125 is refused".
--     between low high z   whether z is from low to high, both included
--     in_range r            whether r is from -55 to +125 degrees: -110 to 250 half degrees, or -880 to 2000 sixteenths
--     whole_in_range w       whether w is from -55 to +125 whole degrees
--     is_limit w            whether w is a signed byte, -128 to 127, as every limit is
-- `le_z a b` is the test a ≤ b.
use Rattle.std.specs.Prelude.{Bool, ◌&&◌, ℤ, pos, neg_ℤ}
use Rattle.std.specs.Int.Signed.{le_z}
use Rattle.temperature.specs.declared.Reading.{Reading}
use Rattle.temperature.specs.declared.Reading.TheVariants.{InSixteenths, InHalves}
use Rattle.temperature.specs.declared.WholeDegrees.{WholeDegrees}

abbrev pub between : ℤ → ℤ → ℤ → Bool
between low high z = le_z low z && le_z z high

-- -55 and +125 degrees in sixteenths
abbrev pub lowest_sixteenths : ℤ
lowest_sixteenths = neg_ℤ (pos 880)

abbrev pub highest_sixteenths : ℤ
highest_sixteenths = pos 2000

-- and in half degrees
abbrev pub lowest_halves : ℤ
lowest_halves = neg_ℤ (pos 110)

abbrev pub highest_halves : ℤ
highest_halves = pos 250

abbrev pub in_range : Reading → Bool
in_range (InSixteenths c) = between lowest_sixteenths highest_sixteenths c.0
in_range (InHalves h) = between lowest_halves highest_halves h.0

abbrev pub whole_in_range : WholeDegrees → Bool
whole_in_range w = between (neg_ℤ (pos 55)) (pos 125) w.0

abbrev pub is_limit : WholeDegrees → Bool
is_limit w = between (neg_ℤ (pos 128)) (pos 127) w.0
