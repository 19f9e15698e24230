-- Rounding down at any step from 1 on. `floor-below` and `floor-near` say that floor_to is the greatest multiple not
-- above z: at most z, and less than a step below it. The laws on nested steps (`div-div`, `floor-div`) say that a first
-- rounding loses nothing for a second one by a multiple of its step. A law goes by the two cases `pos n`, which is n,
-- and `negsuc n`, which is -(n + 1): inside a case all is of natural numbers. Orders are tests that compute: `le_z a b`
-- is a ≤ b, `lt_z a b` is a < b.
use Rattle.std.specs.Prelude.{ℕ, zero, suc, ◌+◌, ◌-◌, ◌*◌, ◌/◌, ◌<◌, ◌≤◌, ◌≡◌, refl, Bool, true, false, ltb, ℤ, pos, negsuc, neg_ℤ, ◌+ℤ◌, ◌*ℤ◌}
use Rattle.std.proofs.Common.{sym, ap, ◌∙◌, arith, div-add-mod', mod-lt, suc-mul, mul_comm, mul-div_cancel, mul-le-mul_right, div-lt_iff_lt-mul, lt-ltb, le-ltb, le-leb, leb-true, leb-false, ltb-true, ltb-false}
use Rattle.std.proofs.lemmas.Bool.{false≢true}
use Rattle.std.proofs.Math.Nat.{div-div-eq-div-mul}
use Rattle.std.proofs.Math.Arith.{digits_div}
use Rattle.std.proofs.Math.IntN.{sub_ℕ}
use Rattle.std.specs.Int.Signed.{mag, le_z, lt_z}
use Rattle.basic_laws.specs.Rounding.{floor_div, floor_to}

-- ## The difference of two natural numbers

pub sub-below : (a b : ℕ) → a < b → sub_ℕ a b ≡ negsuc (b - suc a)
sub-below a b h = rw (lt-ltb a b h)

pub sub-above : (a b : ℕ) → b ≤ a → sub_ℕ a b ≡ pos (a - b)
sub-above a b h = rw (le-ltb a b h)

above-negative : (n a b : ℕ) → b ≤ n + a → lt_z (negsuc n) (sub_ℕ a b) ≡ true
above-negative n a b h = by-test (ltb a b) refl
  where
    by-test : (t : Bool) → ltb a b ≡ t → lt_z (negsuc n) (sub_ℕ a b) ≡ true
    by-test true e =
        let l : a < b = ltb-true a b e in let k : b - suc a < n = omega arith in
        rw (sub-below a b l) (lt-ltb _ _ k)
    by-test false e = let l : b ≤ a = ltb-false a b e in rw (sub-above a b l)

-- ## The order

pub le_trans : (a b c : ℤ) → le_z a b ≡ true → le_z b c ≡ true → le_z a c ≡ true
le_trans (pos a) (pos b) (pos c) h k =
    let l = leb-true a b h in let m = leb-true b c k in le-leb a c (omega arith)
le_trans (pos a) (pos b) (negsuc c) h k = k
le_trans (pos a) (negsuc b) c h k = absurd (false≢true h)
le_trans (negsuc a) b (pos c) h k = refl
le_trans (negsuc a) (pos b) (negsuc c) h k = absurd (false≢true k)
le_trans (negsuc a) (negsuc b) (negsuc c) h k =
    let l = leb-true b a h in let m = leb-true c b k in le-leb c a (omega arith)

pub le_total : (a b : ℤ) → le_z a b ≡ false → le_z b a ≡ true
le_total (pos a) (pos b) e = let h = leb-false a b e in le-leb b a (omega arith)
le_total (pos a) (negsuc b) e = refl
le_total (negsuc a) (pos b) e = sym e
le_total (negsuc a) (negsuc b) e = let h = leb-false b a e in le-leb a b (omega arith)

-- ## The floor of each sign

near : (a s : ℕ) → 0 < s → a / s * s ≤ a × a < a / s * s + s
near a s h = let e = div-add-mod' a s in let l = mod-lt a h in (omega arith, omega arith)

floor-pos : (s n : ℕ) → floor_to s (pos n) ≡ pos (n / s * s)
unfolding floor_to
floor-pos s n = refl

floor-neg : (s n : ℕ) → floor_to (suc s) (negsuc n) ≡ negsuc (n / suc s * suc s + s)
unfolding floor_to
floor-neg s n =
    let e : suc (n / suc s) * suc s ≡ suc (n / suc s * suc s + s) = omega (arith, suc-mul (n / suc s) (suc s)) in
    ap (λ (k : ℕ). neg_ℤ (pos k)) e

-- ## What the floor is

pub floor-below : (s : ℕ) (z : ℤ) → 0 < s → le_z (floor_to s z) z ≡ true
floor-below zero z h = absurd (omega arith)
floor-below (suc s) (pos n) h = rw floor-pos (le-leb _ _ (near n (suc s) h).0)
floor-below (suc s) (negsuc n) h =
    let b = (near n (suc s) h).1 in let l : n ≤ n / suc s * suc s + s = omega arith in
    rw floor-neg (le-leb _ _ l)

pub floor-near : (s : ℕ) (z : ℤ) → 0 < s → lt_z z (floor_to s z +ℤ pos s) ≡ true
floor-near zero z h = absurd (omega arith)
floor-near (suc s) (pos n) h = rw floor-pos (lt-ltb _ _ (near n (suc s) h).1)
floor-near (suc s) (negsuc n) h =
    let b = (near n (suc s) h).0 in let l : suc (n / suc s * suc s + s) ≤ n + suc s = omega arith in
    rw floor-neg (above-negative n (suc s) _ l)

pub floor-one : (z : ℤ) → floor_to 1 z ≡ z
floor-one (pos n) = let e : n / 1 * 1 ≡ n = omega arith in floor-pos 1 n ∙ ap pos e
floor-one (negsuc n) = let e : n / 1 * 1 + 0 ≡ n = omega arith in floor-neg 0 n ∙ ap negsuc e

-- ## Nested steps

pub div-div : (z : ℤ) (s t : ℕ) → floor_div (floor_div z s) t ≡ floor_div z (s * t)
div-div (pos n) s t = ap pos (div-div-eq-div-mul n s t)
div-div (negsuc n) s t = ap negsuc (div-div-eq-div-mul n s t)

-- a multiple of s divided by s
pub mul-div : (z : ℤ) (s : ℕ) → 0 < s → floor_div (z *ℤ pos s) s ≡ z
mul-div z zero h = absurd (omega arith)
mul-div (pos n) (suc s) h = ap pos (mul-div_cancel n h)
mul-div (negsuc n) (suc s) h =
    let e : suc n * suc s ≡ suc (n * suc s + s) = omega (arith, suc-mul n (suc s)) in
    let l : s < suc s = omega arith in
    ap (λ (k : ℕ). floor_div (neg_ℤ (pos k)) (suc s)) e ∙ ap negsuc (digits_div n l)

-- what is rounded stays as it is
pub floor-again : (s : ℕ) (z : ℤ) → 0 < s → floor_to s (floor_to s z) ≡ floor_to s z
unfolding floor_to
floor-again s z h = ap (λ q. q *ℤ pos s) (mul-div (floor_div z s) s h)

pub floor-div : (z : ℤ) (s t : ℕ) → 0 < s → floor_div (floor_to s z) (s * t) ≡ floor_div z (s * t)
unfolding floor_to
floor-div z s t h =
    sym (div-div (floor_div z s *ℤ pos s) s t) ∙ ap (λ (y : ℤ). floor_div y t) (mul-div (floor_div z s) s h)
    ∙ div-div z s t

-- ## Rounding keeps the order

quotients : (a b s : ℕ) → a ≤ b → 0 < s → a / s ≤ b / s
quotients a b s l h =
    let e = (near b s h).1 in
    let k : a / s < suc (b / s) = (div-lt_iff_lt-mul {y = suc (b / s)} h).1 (omega (arith, suc-mul (b / s) s)) in
    omega arith

pub div_mono : (a b : ℤ) (s : ℕ) → 0 < s → le_z a b ≡ true → le_z (floor_div a s) (floor_div b s) ≡ true
div_mono (pos a) (pos b) s h l = le-leb _ _ (quotients a b s (leb-true a b l) h)
div_mono (pos a) (negsuc b) s h l = l
div_mono (negsuc a) (pos b) s h l = refl
div_mono (negsuc a) (negsuc b) s h l = le-leb _ _ (quotients b a s (leb-true b a l) h)

pub floor-mono : (a b : ℤ) (s : ℕ) → 0 < s → le_z a b ≡ true → le_z (floor_to s a) (floor_to s b) ≡ true
floor-mono a b zero h l = absurd (omega arith)
floor-mono (pos a) (pos b) (suc s) h l =
    rw (floor-pos (suc s) a, floor-pos (suc s) b)
    (le-leb _ _ (mul-le-mul_right (suc s) (quotients a b (suc s) (leb-true a b l) h)))
floor-mono (pos a) (negsuc b) (suc s) h l = absurd (false≢true l)
floor-mono (negsuc a) (pos b) (suc s) h l = rw (floor-neg, floor-pos)
floor-mono (negsuc a) (negsuc b) (suc s) h l =
    let m = mul-le-mul_right (suc s) (quotients b a (suc s) (leb-true b a l) h) in
    let k : b / suc s * suc s + s ≤ a / suc s * suc s + s = omega arith in
    rw (floor-neg s a, floor-neg s b) (le-leb _ _ k)

-- ## Size: within the range of a signed number with the bound s * t, dividing by s gives one with the bound t, and back

pub div-size : (z : ℤ) (s t : ℕ) → 0 < s → mag z < s * t → mag (floor_div z s) < t
div-size (pos n) s t h l = (div-lt_iff_lt-mul h).1 (omega (arith, mul_comm t s))
div-size (negsuc n) s t h l = (div-lt_iff_lt-mul h).1 (omega (arith, mul_comm t s))

pub mul-size : (z : ℤ) (s t : ℕ) → 0 < s → mag z < t → mag (z *ℤ pos s) < s * t
mul-size z zero t h l = absurd (omega arith)
mul-size (pos n) (suc s) t h l =
    let m = mul-le-mul_right (suc s) l in omega (arith, mul_comm t (suc s), suc-mul n (suc s))
mul-size (negsuc n) (suc s) t h l =
    let m = mul-le-mul_right (suc s) l in
    let e : suc n * suc s ≡ suc (n * suc s + s) = omega (arith, suc-mul n (suc s)) in
    rw e (omega (arith, mul_comm t (suc s)))

pub floor-size : (z : ℤ) (s t : ℕ) → 0 < s → mag z < s * t → mag (floor_to s z) < s * t
unfolding floor_to
floor-size z s t h l = mul-size (floor_div z s) s t h (div-size z s t h l)
