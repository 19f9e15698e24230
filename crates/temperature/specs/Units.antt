-- The units of a temperature and one conversion each way between them. Each number carries its unit in its type, so
-- that half degrees cannot stand where sixteenths are asked.
--     n sixteenths         a count from 0 on
--     a plus b             the sum of two counts of sixteenths
--     a at_most b           whether a ≤ b; a below b, whether a < b
--     eightfold h          half degrees in sixteenths: times 8
--     sixteenfold w        whole degrees in sixteenths: times 16
--     to_half_degrees c      sixteenths in half degrees: divided by 8, rounded down
--     to_sixteenths h       eightfold h, where h is in range; otherwise refusal 11, with zero sixteenths
--     whole_to_sixteenths w  sixteenfold w, where w is in range; otherwise refusal 11, with zero sixteenths
--     whole_of r            the whole degree at or below a reading: -1 for half a degree below zero
use Rattle.std.specs.Prelude.{ℕ, Bool, pos, ◌+ℤ◌, ◌*ℤ◌}
use Rattle.std.specs.Int.Signed.{le_z, lt_z}
use Rattle.std.specs.Prelude.{if◌then◌else◌}
use Rattle.refusals.specs.Refusals.{accepted, out_of_range}
use Rattle.basic_laws.specs.Rounding.{floor_div}
use Rattle.temperature.specs.declared.Converted.{Converted}
use Rattle.temperature.specs.declared.HalfDegrees.{HalfDegrees}
use Rattle.temperature.specs.declared.Reading.{Reading}
use Rattle.temperature.specs.declared.Reading.TheVariants.{InSixteenths, InHalves}
use Rattle.temperature.specs.declared.Sixteenths.{Sixteenths}
use Rattle.temperature.specs.declared.WholeDegrees.{WholeDegrees}
use Rattle.temperature.specs.Range.{in_range, whole_in_range}

infix 30 ◌sixteenths
abbrev pub ◌sixteenths : ℕ → Sixteenths
n sixteenths = record { 0 = pos n }

infixl 20 ◌plus◌
abbrev pub ◌plus◌ : Sixteenths → Sixteenths → Sixteenths
a plus b = record { 0 = a.0 +ℤ b.0 }

infix 10 ◌at_most◌ ◌below◌
abbrev pub ◌at_most◌ : Sixteenths → Sixteenths → Bool
a at_most b = le_z a.0 b.0

abbrev pub ◌below◌ : Sixteenths → Sixteenths → Bool
a below b = lt_z a.0 b.0

abbrev pub to_half_degrees : Sixteenths → HalfDegrees
to_half_degrees c = record { 0 = floor_div c.0 8 }

abbrev pub eightfold : HalfDegrees → Sixteenths
eightfold h = record { 0 = h.0 *ℤ pos 8 }

abbrev pub sixteenfold : WholeDegrees → Sixteenths
sixteenfold w = record { 0 = w.0 *ℤ pos 16 }

-- a conversion that is made, and one that is refused
abbrev pub converted : Sixteenths → Converted
converted c = record { refusal = accepted; count = c }

abbrev pub not_converted : Converted
not_converted = record { refusal = out_of_range; count = 0 sixteenths }

abbrev pub to_sixteenths : HalfDegrees → Converted
to_sixteenths h = if in_range (InHalves h) then converted (eightfold h) else not_converted

abbrev pub whole_to_sixteenths : WholeDegrees → Converted
whole_to_sixteenths w = if whole_in_range w then converted (sixteenfold w) else not_converted

abbrev pub whole_of : Reading → WholeDegrees
whole_of (InSixteenths c) = record { 0 = floor_div c.0 16 }
whole_of (InHalves h) = record { 0 = floor_div h.0 2 }
