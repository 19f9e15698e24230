-- The two count bytes of S, and the fine reading that they give with the register.
--     counts_per_degree                             16, which a finished conversion leaves in byte 7
--     remaining_of count                           what it leaves in byte 6: for s sixteenths 16 t + 12 - s, where t is
--                                                 four sixteenths more than s in whole degrees
--     counts_right unit remaining perDegree        whether count bytes can be believed: of half degrees byte 7 is not
--                                                 zero and byte 6 not above it; of sixteenths any can
--     fraction whole remaining perDegree          whole degrees, less a quarter, plus (perDegree - remaining) /
--                                                 perDegree, as a whole number over 4 perDegree, not reduced
--     no_fine                                      zero over zero, where there is no fine reading
--     fine_of reading remaining perDegree          of half degrees that fraction of their whole degrees, where the
--                                                 counts are right; else none
use Rattle.std.specs.Prelude.{ℕ, ◌-◌, ◌*◌, Bool, true, ◌&&◌, leb, ltb, pos, ◌+ℤ◌, ◌-ℤ◌, ◌*ℤ◌}
use Rattle.std.specs.Prelude.{if◌then◌else◌}
use Rattle.family.specs.declared.Unit.{Unit}
use Rattle.family.specs.declared.Unit.TheVariants.{Sixteenths as inSixteenths, HalfDegrees as inHalfDegrees}
use Rattle.basic_laws.specs.Complement.{bits8}
use Rattle.temperature.specs.Units.{◌sixteenths, ◌plus◌, whole_of}
use Rattle.temperature.specs.declared.Reading.{Reading}
use Rattle.temperature.specs.declared.Reading.TheVariants.{InSixteenths, InHalves}
use Rattle.temperature.specs.declared.Sixteenths.{Sixteenths}
use Rattle.temperature.specs.declared.WholeDegrees.{WholeDegrees}
use Rattle.scratchpad.specs.declared.fine.FineDegrees.{FineDegrees}

abbrev pub counts_per_degree : ℕ
counts_per_degree = 16

unfoldable pub remaining_of : Sixteenths → ℕ
remaining_of count = let t = whole_of (InSixteenths (count plus 4 sixteenths)) in
    bits8 (t.0 *ℤ pos 16 +ℤ pos 12 -ℤ count.0)

abbrev pub counts_right : Unit → ℕ → ℕ → Bool
counts_right inSixteenths remaining perDegree = true
counts_right inHalfDegrees remaining perDegree = ltb 0 perDegree && leb remaining perDegree

abbrev pub fraction : WholeDegrees → ℕ → ℕ → FineDegrees
fraction whole remaining perDegree = record {
  numerator = whole.0 *ℤ pos (4 * perDegree) -ℤ pos perDegree +ℤ pos (4 * (perDegree - remaining));
  denominator = 4 * perDegree;
}

abbrev pub no_fine : FineDegrees
no_fine = record { numerator = pos 0; denominator = 0 }

abbrev pub fine_of : Reading → ℕ → ℕ → FineDegrees
fine_of (InSixteenths c) remaining perDegree = no_fine
fine_of (InHalves h) remaining perDegree =
    if counts_right inHalfDegrees remaining perDegree then fraction (whole_of (InHalves h)) remaining perDegree
    else no_fine
