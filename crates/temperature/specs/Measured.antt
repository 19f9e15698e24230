-- What a finished conversion stores for the sensor's count of sixteenths.
--     step_at resolution                       8, 4, 2 or 1 sixteenths for 0, 1, 2 or 3
--     step_of configuration                    the step of the resolution in bits 6 and 5
--     rounded_of count configuration           the count rounded down to a multiple of that step
--     nearest_halves count                     the nearest half degree, the upper one where two are as near
--     measured_of unit count configuration     the stored reading: rounded sixteenths, or the nearest half degree
-- The laws cite one law of rounding down, which holds for any step.
use Rattle.std.specs.Prelude.{ℕ, eqb, pos, ◌+ℤ◌}
use Rattle.family.specs.Configuration.{resolution}
use Rattle.family.specs.declared.Unit.{Unit}
use Rattle.family.specs.declared.Unit.TheVariants.{Sixteenths as inSixteenths, HalfDegrees as inHalfDegrees}
use Rattle.std.specs.Prelude.{if◌then◌else◌}
use Rattle.basic_laws.specs.Rounding.{floor_div, floor_to}
use Rattle.temperature.specs.declared.HalfDegrees.{HalfDegrees}
use Rattle.temperature.specs.declared.Reading.{Reading}
use Rattle.temperature.specs.declared.Reading.TheVariants.{InSixteenths, InHalves}
use Rattle.temperature.specs.declared.Sixteenths.{Sixteenths}

abbrev pub step_at : ℕ → ℕ
step_at r = if eqb r 0 then 8 else if eqb r 1 then 4 else if eqb r 2 then 2 else 1

abbrev pub step_of : ℕ → ℕ
step_of configuration = step_at (resolution configuration)

abbrev pub rounded_of : Sixteenths → ℕ → Sixteenths
rounded_of count configuration = record { 0 = floor_to (step_of configuration) count.0 }

abbrev pub nearest_halves : Sixteenths → HalfDegrees
nearest_halves count = record { 0 = floor_div (count.0 +ℤ pos 4) 8 }

abbrev pub measured_of : Unit → Sixteenths → ℕ → Reading
measured_of inSixteenths count configuration = InSixteenths (rounded_of count configuration)
measured_of inHalfDegrees count configuration = InHalves (nearest_halves count)
