-- Both coarser units round down: at most the count, and less than one of the unit below it; and nothing is lost from
-- half degrees or whole degrees to sixteenths.
use Rattle.std.specs.Prelude.{◌≡◌, refl, true}
use Rattle.std.proofs.Common.{ap, arith, lit<, lit≤}
use Rattle.basic_laws.specs.Complement.{Fits16}
use Rattle.basic_laws.proofs.ComplementLaws.{mul-fits}
use Rattle.basic_laws.specs.Rounding.{floor_to}
use Rattle.basic_laws.proofs.RoundingLaws.{floor-below, floor-near, mul-div}
use Rattle.temperature.specs.declared.HalfDegrees.{HalfDegrees}
use Rattle.temperature.specs.declared.Reading.TheVariants.{InSixteenths, InHalves}
use Rattle.temperature.specs.declared.Sixteenths.{Sixteenths}
use Rattle.temperature.specs.declared.WholeDegrees.{WholeDegrees}
use Rattle.temperature.specs.Range.{in_range, whole_in_range}
use Rattle.temperature.specs.RangeLaws.{between-size}
use Rattle.temperature.specs.Units.{◌sixteenths, ◌plus◌, ◌at_most◌, ◌below◌, to_half_degrees, eightfold, sixteenfold}
use Rattle.temperature.specs.Units.{to_sixteenths, whole_to_sixteenths, whole_of}

-- ## Both coarser units round down: at most the count, and less than one of the unit below it

pub halves-below : (c : Sixteenths) → eightfold (to_half_degrees c) at_most c ≡ true
unfolding floor_to
halves-below c = floor-below 8 c.0 (lit< tt)

pub halves-near : (c : Sixteenths) → c below eightfold (to_half_degrees c) plus 8 sixteenths ≡ true
unfolding floor_to
halves-near c = floor-near 8 c.0 (lit< tt)

pub whole_below : (c : Sixteenths) → sixteenfold (whole_of (InSixteenths c)) at_most c ≡ true
unfolding floor_to
whole_below c = floor-below 16 c.0 (lit< tt)

pub whole-near : (c : Sixteenths) → c below sixteenfold (whole_of (InSixteenths c)) plus 16 sixteenths ≡ true
unfolding floor_to
whole-near c = floor-near 16 c.0 (lit< tt)

-- ## There and back

-- eight times a count in range fits sixteen bits
pub eightfold-fits : (h : HalfDegrees) → in_range (InHalves h) ≡ true → Fits16 (eightfold h).0
eightfold-fits h e =
    let k = between-size 109 250 250 h.0 (lit≤ tt) (lit≤ tt) e in
    mul-fits h.0 8 4096 (lit< tt) refl (omega arith)

-- nothing is lost from half degrees to sixteenths
eightfold-back : (h : HalfDegrees) → to_half_degrees (eightfold h) ≡ h
eightfold-back h = ap (λ z. record { 0 = z }) (mul-div h.0 8 (lit< tt))

pub sixteenths-back : (h : HalfDegrees) → in_range (InHalves h) ≡ true → to_half_degrees (to_sixteenths h).count ≡ h
sixteenths-back h e = rw e (eightfold-back h)

-- sixteen times a whole degree in range fits sixteen bits
pub sixteenfold-fits : (w : WholeDegrees) → whole_in_range w ≡ true → Fits16 (sixteenfold w).0
sixteenfold-fits w e =
    let k = between-size 54 125 125 w.0 (lit≤ tt) (lit≤ tt) e in
    mul-fits w.0 16 2048 (lit< tt) refl (omega arith)

-- nothing is lost from whole degrees to sixteenths
sixteenfold-back : (w : WholeDegrees) → whole_of (InSixteenths (sixteenfold w)) ≡ w
sixteenfold-back w = ap (λ z. record { 0 = z }) (mul-div w.0 16 (lit< tt))

pub whole_back : (w : WholeDegrees) → whole_in_range w ≡ true → whole_of (InSixteenths (whole_to_sixteenths w).count) ≡ w
whole_back w e = rw e (sixteenfold-back w)
