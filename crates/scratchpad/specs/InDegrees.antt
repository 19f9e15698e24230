-- The temperature of a scratchpad in single-precision degrees, as the judgement reads it.
--     sixteenths_of r             a reading in sixteenths; half degrees out of range, which no judgement accepts, are
--                                refused with 11
--     degrees_in family pad       the refusal of the judgement, or 0, and the degrees of its reading, which is zero
--                                beside a refusal
use Rattle.std.specs.Prelude.{ℕ, List}
use Rattle.temperature.specs.Degrees.{degrees_of}
use Rattle.temperature.specs.Units.{converted, to_sixteenths}
use Rattle.temperature.specs.declared.Converted.{Converted}
use Rattle.temperature.specs.declared.Reading.{Reading}
use Rattle.temperature.specs.declared.Reading.TheVariants.{InSixteenths, InHalves}
use Rattle.scratchpad.specs.declared.DegreesRead.{DegreesRead}
use Rattle.scratchpad.specs.declared.Judged.{Judged}
use Rattle.scratchpad.specs.Judgement.{judged}

abbrev pub sixteenths_of : Reading → Converted
sixteenths_of (InSixteenths c) = converted c
sixteenths_of (InHalves h) = to_sixteenths h

abbrev pub in_degrees : Judged → DegreesRead
in_degrees j = record { refusal = j.refusal; degrees = degrees_of (sixteenths_of j.reading).count }

abbrev pub degrees_in : ℕ → List ℕ → DegreesRead
degrees_in family pad = in_degrees (judged family pad)
