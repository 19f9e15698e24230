-- A number with a sign as a difference of two natural numbers, `sub_ℕ a b`, which is a - b: sums, negatives and
-- multiples of differences are differences again, so that an equation between numbers with a sign is one between
-- natural numbers (`difference-same`). And the order and the size of a sum.
use Rattle.std.specs.Prelude.{ℕ, zero, suc, ◌+◌, ◌-◌, ◌<◌, ◌≤◌, ◌≡◌, refl, Bool, true, false, ltb, ℤ, pos, negsuc, neg_ℤ, ◌+ℤ◌, ◌-ℤ◌}
use Rattle.std.proofs.Common.{sym, ap, ◌∙◌, arith, ltb-true, ltb-false, le-leb, leb-true}
use Rattle.std.proofs.lemmas.Bool.{false≢true}
use Rattle.std.proofs.Math.IntN.{sub_ℕ}
use Rattle.std.specs.Int.Signed.{mag, le_z}
use Rattle.basic_laws.proofs.RoundingLaws.{sub-below, sub-above}

-- ## Differences

-- a difference by its two cases
pub difference-cases : (P : ℤ → Type 0) (a b : ℕ) → ((h : a < b) → P (negsuc (b - suc a)))
    → ((h : b ≤ a) → P (pos (a - b))) → P (sub_ℕ a b)
difference-cases P a b below above = by-test (ltb a b) refl
  where
    by-test : (t : Bool) → ltb a b ≡ t → P (sub_ℕ a b)
    by-test true e = let h = ltb-true a b e in rw (sub-below a b h) (below h)
    by-test false e = let h = ltb-false a b e in rw (sub-above a b h) (above h)

pub difference-same : (a b c d : ℕ) → a + d ≡ c + b → sub_ℕ a b ≡ sub_ℕ c d
difference-same a b c d e =
    difference-cases (λ z. z ≡ sub_ℕ c d) a b
    (λ h. let k : c < d = omega arith in let f : b - suc a ≡ d - suc c = omega arith in
    rw (sub-below c d k) (ap negsuc f))
    (λ h. let k : d ≤ c = omega arith in let f : a - b ≡ c - d = omega arith in rw (sub-above c d k) (ap pos f))

pub pos-difference : (n : ℕ) → pos n ≡ sub_ℕ n 0
pos-difference n = sym (sub-above n 0 (omega arith) ∙ ap pos (omega arith))

pub negative-difference : (n : ℕ) → neg_ℤ (pos n) ≡ sub_ℕ 0 n
negative-difference zero = refl
negative-difference (suc n) = sym (sub-below 0 (suc n) (omega arith) ∙ ap negsuc (omega arith))

pub difference-negated : (a b : ℕ) → neg_ℤ (sub_ℕ a b) ≡ sub_ℕ b a
difference-negated a b =
    difference-cases (λ z. neg_ℤ z ≡ sub_ℕ b a) a b
    (λ h. let k : a ≤ b = omega arith in let f : suc (b - suc a) ≡ b - a = omega arith in
    rw (sub-above b a k) (ap pos f))
    (λ h. negative-difference (a - b) ∙ difference-same 0 (a - b) b a (omega arith))

-- a sum of two numbers by their cases
sum_below : (m : ℕ) (c d : ℕ) → negsuc m +ℤ sub_ℕ c d ≡ sub_ℕ c (suc m + d)
sum_below m c d =
    difference-cases (λ z. negsuc m +ℤ z ≡ sub_ℕ c (suc m + d)) c d
    (λ h. let k : c < suc m + d = omega arith in let f : suc (m + (d - suc c)) ≡ suc m + d - suc c = omega arith in
    rw (sub-below c (suc m + d) k) (ap negsuc f))
    (λ h. difference-same (c - d) (suc m) c (suc m + d) (omega arith))

sum-above : (m : ℕ) (c d : ℕ) → pos m +ℤ sub_ℕ c d ≡ sub_ℕ (m + c) d
sum-above m c d =
    difference-cases (λ z. pos m +ℤ z ≡ sub_ℕ (m + c) d) c d
    (λ h. difference-same m (suc (d - suc c)) (m + c) d (omega arith))
    (λ h. let k : d ≤ m + c = omega arith in let f : m + (c - d) ≡ m + c - d = omega arith in
    rw (sub-above (m + c) d k) (ap pos f))

pub difference-sum : (a b c d : ℕ) → sub_ℕ a b +ℤ sub_ℕ c d ≡ sub_ℕ (a + c) (b + d)
difference-sum a b c d =
    difference-cases (λ z. z +ℤ sub_ℕ c d ≡ sub_ℕ (a + c) (b + d)) a b
    (λ h. sum_below (b - suc a) c d ∙ difference-same c (suc (b - suc a) + d) (a + c) (b + d) (omega arith))
    (λ h. sum-above (a - b) c d ∙ difference-same (a - b + c) d (a + c) (b + d) (omega arith))

-- ## The order of sums

difference-order : (a b c d : ℕ) → a + d ≤ c + b → le_z (sub_ℕ a b) (sub_ℕ c d) ≡ true
difference-order a b c d h =
    difference-cases (λ z. le_z z (sub_ℕ c d) ≡ true) a b
    (λ k.
    difference-cases (λ z. le_z (negsuc (b - suc a)) z ≡ true) c d
    (λ l. let m : d - suc c ≤ b - suc a = omega arith in le-leb _ _ m)
    (λ l. refl))
    (λ k.
    difference-cases (λ z. le_z (pos (a - b)) z ≡ true) c d
    (λ l. absurd (omega arith))
    (λ l. let m : a - b ≤ c - d = omega arith in le-leb _ _ m))

pub le-plus : (a b : ℤ) (n : ℕ) → le_z a b ≡ true → le_z (a +ℤ pos n) (b +ℤ pos n) ≡ true
le-plus (pos a) (pos b) n h = let l = leb-true a b h in let m : a + n ≤ b + n = omega arith in le-leb _ _ m
le-plus (pos a) (negsuc b) n h = absurd (false≢true h)
le-plus (negsuc a) (pos b) n h = rw (pos-difference (b + n)) (difference-order n (suc a) (b + n) 0 (omega arith))
le-plus (negsuc a) (negsuc b) n h = let l = leb-true b a h in difference-order n (suc a) n (suc b) (omega arith)

-- ## The size of sums

difference-size : (a b n : ℕ) → a ≤ n → b ≤ suc n → mag (sub_ℕ a b) ≤ n
difference-size a b n h k = difference-cases (λ z. mag z ≤ n) a b (λ l. omega arith) (λ l. omega arith)

pub plus-size : (z : ℤ) (n : ℕ) → mag (z +ℤ pos n) ≤ mag z + n
plus-size (pos a) n = omega arith
plus-size (negsuc a) n = difference-size n (suc a) (a + n) (omega arith) (omega arith)

pub minus-size : (z : ℤ) (n : ℕ) → mag (z -ℤ pos n) ≤ mag z + n
minus-size (pos a) n = rw (
  negative-difference n,
  pos-difference a,
  difference-sum a 0 0 n,
) (difference-size (a + 0) (0 + n) (a + n) (omega arith) (omega arith))
minus-size (negsuc a) zero = let e : suc a - suc 0 ≡ a = omega arith in
    rw (sub-below 0 (suc a) (omega arith), e) (omega arith)
minus-size (negsuc a) (suc n) = let l : suc (a + n) ≤ a + suc n = omega arith in l
