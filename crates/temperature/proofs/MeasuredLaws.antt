-- What a conversion stores is rounded down to the step of its configuration (by the law of rounding, at any step) or
-- the nearest half degree, stays in range, and is read back. Sixteenths keep the whole degree of the count; of half
-- degrees it is that of four sixteenths more.
use Rattle.std.specs.Prelude.{ℕ, suc, ◌*◌, ◌/◌, ◌<◌, ◌≤◌, ◌≡◌, refl, Bool, true, false, eqb, ltb, ℤ, pos, negsuc, ◌+ℤ◌}
use Rattle.std.proofs.Common.{sym, ap, ◌∙◌, arith, ltb-true, ltb-false, lit<}
use Rattle.std.proofs.Math.IntN.{sub_ℕ}
use Rattle.std.specs.Int.Signed.{mag}
use Rattle.family.specs.Configuration.{resolution}
use Rattle.family.specs.declared.Unit.{Unit}
use Rattle.family.specs.declared.Unit.TheVariants.{Sixteenths as inSixteenths, HalfDegrees as inHalfDegrees}
use Rattle.std.specs.Prelude.{if◌then◌else◌}
use Rattle.basic_laws.specs.Complement.{Fits16}
use Rattle.basic_laws.proofs.ComplementLaws.{floor-fits}
use Rattle.basic_laws.proofs.DifferencesLaws.{plus-size}
use Rattle.basic_laws.specs.Rounding.{floor_div, floor_to}
use Rattle.basic_laws.proofs.RoundingLaws.{sub-below, sub-above, floor-below, floor-near, floor-again, floor-div}
use Rattle.basic_laws.proofs.RoundingLaws.{div-div, div-size}
use Rattle.temperature.specs.declared.Reading.{Reading}
use Rattle.temperature.specs.declared.Reading.TheVariants.{InSixteenths, InHalves}
use Rattle.temperature.specs.declared.Sixteenths.{Sixteenths}
use Rattle.temperature.specs.RangeLaws.{between-div, between-floor, between-plus}
use Rattle.temperature.specs.Range.{highest_sixteenths, in_range, lowest_sixteenths}
use Rattle.temperature.specs.Register.{count_of, raw_reading, cleared_of, reading_of, register_of, unit_of}
use Rattle.temperature.specs.RegisterLaws.{reading-register}
use Rattle.temperature.specs.Units.{◌at_most◌, ◌below◌, ◌plus◌, ◌sixteenths, eightfold, whole_of}
use Rattle.temperature.specs.Measured.{step_of, rounded_of, nearest_halves, measured_of}

-- ## The four steps

-- what holds of 8, 4, 2 and 1 holds of every step
pub each_step : (P : ℕ → Type 0) → P 8 → P 4 → P 2 → P 1 → (configuration : ℕ) → P (step_of configuration)
each_step P p8 p4 p2 p1 configuration = pick (eqb r 0) (eqb r 1) (eqb r 2)
  where
    r : ℕ
    r = resolution configuration

    pick : (a b c : Bool) → P (if a then 8 else if b then 4 else if c then 2 else 1)
    pick true b c = p8
    pick false true c = p4
    pick false false true = p2
    pick false false false = p1

step-positive : (configuration : ℕ) → 0 < step_of configuration
step-positive = each_step (λ s. 0 < s) (lit< tt) (lit< tt) (lit< tt) (lit< tt)

-- ## The stored count is at most the count, and less than a step below it

pub rounded-below : (count : Sixteenths) (configuration : ℕ) → rounded_of count configuration at_most count ≡ true
rounded-below count configuration = floor-below (step_of configuration) count.0 (step-positive configuration)

pub rounded-near : (count : Sixteenths) (configuration : ℕ)
    → count below rounded_of count configuration plus step_of configuration sixteenths ≡ true
rounded-near count configuration = floor-near (step_of configuration) count.0 (step-positive configuration)

-- ## The whole degree of what is stored

-- each step divides a degree
pub whole-rounded : (count : Sixteenths) (configuration : ℕ)
    → whole_of (InSixteenths (rounded_of count configuration)) ≡ whole_of (InSixteenths count)
whole-rounded count configuration =
    each_step (λ s. whole_of (InSixteenths (record { 0 = floor_to s count.0 })) ≡ whole_of (InSixteenths count))
    (whole 8 2 (lit< tt) refl)
    (whole 4 4 (lit< tt) refl)
    (whole 2 8 (lit< tt) refl)
    (whole 1 16 (lit< tt) refl)
    configuration
  where
    whole : (s t : ℕ) → 0 < s → s * t ≡ 16 → whole_of (InSixteenths (record { 0 = floor_to s count.0 }))
        ≡ whole_of (InSixteenths count)
    whole s t h e = rw (sym e, floor-div count.0 s t h)

pub whole-nearest : (count : Sixteenths) → whole_of (InHalves (nearest_halves count))
    ≡ whole_of (InSixteenths (count plus 4 sixteenths))
whole-nearest count = ap (λ z. record { 0 = z }) (div-div (count.0 +ℤ pos 4) 8 2)

-- ## The nearest half degree is at most four sixteenths from the count

pub nearest-below : (count : Sixteenths) → eightfold (nearest_halves count) at_most count plus 4 sixteenths ≡ true
unfolding floor_to
nearest-below count = floor-below 8 (count.0 +ℤ pos 4) (lit< tt)

pub nearest-near : (count : Sixteenths) → count plus 4 sixteenths below eightfold (nearest_halves count)
    plus 8 sixteenths ≡ true
unfolding floor_to
nearest-near count = floor-near 8 (count.0 +ℤ pos 4) (lit< tt)

-- as the code makes it, within sixteen bits
pub nearest-halved : (z : ℤ) → floor_div (floor_div z 4 +ℤ pos 1) 2 ≡ floor_div (z +ℤ pos 4) 8
nearest-halved (pos n) = ap pos (omega arith)
nearest-halved (negsuc n) = by-test (ltb n 4) refl
  where
    by-test : (t : Bool) → ltb n 4 ≡ t → floor_div (sub_ℕ 1 (suc (n / 4))) 2 ≡ floor_div (sub_ℕ 4 (suc n)) 8
    by-test true e =
        let h = ltb-true n 4 e in
        let q : suc (n / 4) ≤ 1 = omega arith in
        let l : suc n ≤ 4 = omega arith in
        rw (sub-above 1 (suc (n / 4)) q, sub-above 4 (suc n) l) (ap pos (omega arith))
    by-test false e =
        let h = ltb-false n 4 e in
        let q : 1 < suc (n / 4) = omega arith in
        let l : 4 < suc n = omega arith in
        rw (sub-below 1 (suc (n / 4)) q, sub-below 4 (suc n) l) (ap negsuc (omega arith))

-- ## A count in range is stored as a reading in range

pub measured-range : (unit : Unit) (count : Sixteenths) (configuration : ℕ)
    → in_range (InSixteenths count) ≡ true → in_range (measured_of unit count configuration) ≡ true
unfolding floor_to
measured-range inSixteenths count configuration h =
    each_step (λ s. in_range (InSixteenths (record { 0 = floor_to s count.0 })) ≡ true)
    (between-floor 8 lowest_sixteenths highest_sixteenths count.0 (lit< tt) refl h)
    (between-floor 4 lowest_sixteenths highest_sixteenths count.0 (lit< tt) refl h)
    (between-floor 2 lowest_sixteenths highest_sixteenths count.0 (lit< tt) refl h)
    (between-floor 1 lowest_sixteenths highest_sixteenths count.0 (lit< tt) refl h)
    configuration
measured-range inHalfDegrees count configuration h =
    between-div 8 (lowest_sixteenths +ℤ pos 4) (highest_sixteenths +ℤ pos 4) (count.0 +ℤ pos 4) (lit< tt)
    (between-plus lowest_sixteenths highest_sixteenths count.0 4 h)

-- ## What is stored fits the register, which gives it back

pub measured-fits : (unit : Unit) (count : Sixteenths) (configuration : ℕ)
    → Fits16 count.0 → Fits16 (count_of (measured_of unit count configuration))
measured-fits inSixteenths count configuration f =
    each_step (λ s. Fits16 (floor_to s count.0))
    (floor-fits count.0 8 4096 (lit< tt) refl f)
    (floor-fits count.0 4 8192 (lit< tt) refl f)
    (floor-fits count.0 2 16384 (lit< tt) refl f)
    (floor-fits count.0 1 32768 (lit< tt) refl f)
    configuration
measured-fits inHalfDegrees count configuration f =
    let s = plus-size count.0 4 in
    let l : mag (count.0 +ℤ pos 4) < 8 * 32768 = omega (arith, f.sfits) in
    record { sfits = div-size (count.0 +ℤ pos 4) 8 32768 (lit< tt) l }

pub unit-measured : (unit : Unit) (count : Sixteenths) (configuration : ℕ)
    → unit_of (measured_of unit count configuration) ≡ unit
unit-measured inSixteenths count configuration = refl
unit-measured inHalfDegrees count configuration = refl

-- the sixteen bits as they are stored
pub measured-raw : (unit : Unit) (count : Sixteenths) (configuration : ℕ) → Fits16 count.0
    → raw_reading unit (register_of (measured_of unit count configuration)).low
    (register_of (measured_of unit count configuration)).high
    ≡ measured_of unit count configuration
measured-raw unit count configuration f =
    rw (unit-measured unit count configuration) at
    (reading-register (measured_of unit count configuration) (measured-fits unit count configuration f))

-- what is stored has no undefined bit set
pub measured-cleared : (unit : Unit) (count : Sixteenths) (configuration : ℕ)
    → cleared_of (measured_of unit count configuration) configuration ≡ measured_of unit count configuration
measured-cleared inSixteenths count configuration =
    ap (λ z. InSixteenths (record { 0 = z }))
    (floor-again (step_of configuration) count.0 (step-positive configuration))
measured-cleared inHalfDegrees count configuration = refl

-- decoded at the configuration at which it was stored, it is read back
pub measured-read : (unit : Unit) (count : Sixteenths) (configuration : ℕ) → Fits16 count.0
    → reading_of unit (register_of (measured_of unit count configuration)).low
    (register_of (measured_of unit count configuration)).high configuration
    ≡ measured_of unit count configuration
measured-read unit count configuration f =
    ap (λ r. cleared_of r configuration) (measured-raw unit count configuration f)
    ∙ measured-cleared unit count configuration

-- ## A raw reading in range is in range cleared, at any configuration

pub cleared-range : (r : Reading) (configuration : ℕ) → in_range r ≡ true → in_range (cleared_of r configuration) ≡ true
cleared-range (InSixteenths c) configuration h = measured-range inSixteenths c configuration h
cleared-range (InHalves x) configuration h = h
