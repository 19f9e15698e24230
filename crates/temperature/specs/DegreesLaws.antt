-- Single-precision degrees are exact at every count of sixteen bits, so at every count from -880 to 2,000.
use Rattle.std.specs.Prelude.{ℕ, suc, ◌*◌, ◌^◌, ◌<◌, ◌≡◌, refl, Bool, true, false, ℤ, pos, negsuc, Float}
use Rattle.std.proofs.Common.{sym, ap, ◌∙◌, arith, mul_assoc, mul_comm, mul-one, mul-pos, lt_of_lt_of_le, lit<, lit≤, pow_pos, pow_mono, shl_lt}
use Rattle.std.specs.Int.Signed.{mag}
use Rattle.std.specs.Float.{nan, inf, fin, binary32}
use Rattle.std.specs.Float.Ieee.{up, down, round, div, of_int, of_bits}
use Rattle.std.specs.Float.Ieee.Exact.{HasValue, round_exact}
use Rattle.std.specs.Float.Ieee.Scale.{round_same}
use Rattle.temperature.specs.declared.Reading.TheVariants.{InSixteenths}
use Rattle.temperature.specs.declared.Sixteenths.{Sixteenths}
use Rattle.temperature.specs.Range.{in_range}
use Rattle.temperature.specs.RangeLaws.{between-size}
use Rattle.temperature.specs.Degrees.{nearest, degrees_of, IsSixteenths}

-- ## Exact: a size of at most sixteen digits is rounded to itself, whole or in sixteenths

whole : (s : Bool) (n : ℕ) → n < 65536 → HasValue (round binary32 s n 1) s n 1
whole s n h =
    let l = lt_of_lt_of_le (shl_lt 16 149 h) (pow_mono {i = 165} {j = 277} (lit≤ tt)) in
    round_exact binary32 s n 1 n 149 (lit< tt) (omega arith) l (sym (mul-one (n * 2 ^ 149)))

parts : (s : Bool) (n : ℕ) → n < 65536 → HasValue (round binary32 s n 16) s n 16
parts s n h =
    let l = lt_of_lt_of_le (shl_lt 16 145 h) (pow_mono {i = 161} {j = 277} (lit≤ tt)) in
    round_exact binary32 s n 16 n 145 (lit< tt) (omega arith) l (sym (mul_assoc n (2 ^ 145) 16))

pub sixteenths-exact : (z : ℤ) → mag z < 32768 → IsSixteenths (nearest z) z
sixteenths-exact (pos n) h = parts false n (omega arith)
sixteenths-exact (negsuc n) h = parts true (suc n) (omega arith)

pub degrees-exact : (c : Sixteenths) → in_range (InSixteenths c) ≡ true → IsSixteenths (degrees_of c).0 c.0
degrees-exact c h =
    let k = between-size 879 2000 2000 c.0 (lit≤ tt) (lit≤ tt) h in
    sixteenths-exact c.0 (omega arith)

-- ## The code's quotient is the nearest number: the count as a float is the count, and the division rounds once

down_pos : (e : ℤ) → 0 < down e
down_pos (pos k) = lit< tt
down_pos (negsuc k) = pow_pos (suc k)

same_size : (s : Bool) (m : ℕ) (e : ℤ) (n : ℕ) → m * up e * 1 ≡ n * down e
    → round binary32 s (m * up e * 1) (16 * down e) ≡ round binary32 s n 16
same_size s m e n v =
    round_same binary32 s (m * up e * 1) (16 * down e) n 16 (mul-pos (lit< tt) (down_pos e)) (lit< tt)
    (ap (λ (k : ℕ). k * 16) v ∙ mul_assoc n (down e) 16 ∙ ap (λ (k : ℕ). n * k) (mul_comm (down e) 16))

divided : (x : Float) (s : Bool) (n : ℕ) → HasValue x s n 1
    → div binary32 x (fin false 1 (pos 4)) ≡ round binary32 s n 16
unfolding div
divided nan s n v = absurd v
divided (inf t) s n v = absurd v
divided (fin true m e) s n v = same_size true m e n v.1 ∙ ap (λ (t : Bool). round binary32 t n 16) v.0
divided (fin false m e) s n v = same_size false m e n v.1 ∙ ap (λ (t : Bool). round binary32 t n 16) v.0

pub quotient : (z : ℤ) → mag z < 32768 → div binary32 (of_int binary32 z) (fin false 1 (pos 4)) ≡ nearest z
unfolding of_int
quotient (pos n) h = divided (round binary32 false n 1) false n (whole false n (omega arith))
quotient (negsuc n) h = divided (round binary32 true (suc n) 1) true (suc n) (whole true (suc n) (omega arith))

-- the constant 16.0, as its bits
pub sixteen : of_bits binary32 1098907648 ≡ fin false 1 (pos 4)
unfolding of_bits
sixteen = refl
