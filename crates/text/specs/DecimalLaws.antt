-- Plain decimal: how many digits a number has, as a loop counts them, and the two round trips.
--     decimal-read           the number of the digits of a number
--     decimal-written        plain decimal read and written again is the same
--     decimal-plain          a number in plain decimal is one
use Rattle.std.specs.Prelude.{ℕ, zero, suc, ◌+◌, ◌-◌, ◌/◌, ◌^◌, ◌<◌, ◌≤◌, ◌≡◌, refl, Bool, true, false, not, ◌&&◌, ◌||◌, List, [], ◌∷◌, ◌++◌, eqb, leb, ltb, ℤ, pos, nat_abs, length, take, drop, get_or}
use Rattle.std.proofs.Common.{sym, ap, ◌∙◌, arith, pow-suc, lt-ltb, le-ltb, le-leb, ltb-true, ltb-false, eq-eqb, ne_eqb, eqb-true, lit<, length-drop, take_all}
use Rattle.std.proofs.lemmas.Bool.{false≢true, lt-leb, eqb-false, not-true}
use Rattle.std.proofs.Math.Nat.{pow-le-pow_right}
use Rattle.std.specs.Int.Signed.{lt_z}
use Rattle.std.specs.Prelude.{if◌then◌else◌}
use Rattle.basic_laws.specs.ChoiceLaws.{and_left, and_right}
use Rattle.basic_laws.specs.Fold.{fold, all}
use Rattle.text.specs.Ascii.{ascii}
use Rattle.text.specs.Digits.{digits, digit_of, value_of, is_digit, spells, number_in, then_digit}
use Rattle.text.specs.DigitsLaws.{digits-length, digits_are, number_digits, digits_number, number-below}
use Rattle.text.specs.DigitsLaws.{digit_value}
use Rattle.text.specs.Decimal.{length_within, decimal_length, decimal, signed_decimal, is_negative, decimal_in}
use Rattle.text.specs.Decimal.{plain_decimal}

-- ## How many digits

-- more tenths taken than enough change nothing
length-enough : (n m x : ℕ) → x ≤ n → x ≤ m → length_within n x ≡ length_within m x
unfolding length_within
length-enough zero zero x h k = refl
length-enough zero (suc m) x h k = let s : x < 10 = omega arith in rw (lt-ltb x 10 s)
length-enough (suc n) zero x h k = let s : x < 10 = omega arith in rw (lt-ltb x 10 s)
length-enough (suc n) (suc m) x h k = by-test (ltb x 10) refl (length-enough n m (x / 10))
  where
    by-test : (t : Bool) → ltb x 10 ≡ t → (x / 10 ≤ n → x / 10 ≤ m → length_within n (x / 10) ≡ length_within m (x / 10))
        → (if t then 1 else suc (length_within n (x / 10))) ≡ (if t then 1 else suc (length_within m (x / 10)))
    by-test true e tenth = refl
    by-test false e tenth = let b = ltb-false x 10 e in ap suc (tenth (omega arith) (omega arith))

-- as a loop counts them: one below ten, else one more than the tenth has
pub length-small : (x : ℕ) → x < 10 → decimal_length x ≡ 1
unfolding length_within
length-small zero h = refl
length-small (suc x) h = rw (lt-ltb (suc x) 10 h)

pub length-tenth : (x : ℕ) → 10 ≤ x → decimal_length x ≡ decimal_length (x / 10) + 1
unfolding length_within
length-tenth zero h = absurd (omega arith)
length-tenth (suc x) h =
    let l = length-enough x (suc x / 10) (suc x / 10) (omega arith) (omega arith) in
    rw (le-ltb (suc x) 10 h, l) (omega arith)

-- a number is below the power that its digits do not reach
within-below : (n x : ℕ) → x ≤ n → x < 10 ^ length_within n x
unfolding length_within
within-below zero x h = omega arith
within-below (suc n) x h = by-test (ltb x 10) refl (within-below n (x / 10))
  where
    by-test : (t : Bool) → ltb x 10 ≡ t → (x / 10 ≤ n → x / 10 < 10 ^ length_within n (x / 10))
        → x < 10 ^ (if t then 1 else suc (length_within n (x / 10)))
    by-test true e tenth = ltb-true x 10 e
    by-test false e tenth =
        let b = ltb-false x 10 e in
        let i = tenth (omega arith) in
        omega (arith, pow-suc 10 (length_within n (x / 10)))

-- a number that k digits hold has no more
within-most : (n x k : ℕ) → x < 10 ^ suc k → length_within n x ≤ suc k
unfolding length_within
within-most zero x k h = omega arith
within-most (suc n) x k h = by-test (ltb x 10) refl k h (within-most n (x / 10))
  where
    by-test : (t : Bool) → ltb x 10 ≡ t → (k : ℕ) → x < 10 ^ suc k
        → ((k : ℕ) → x / 10 < 10 ^ suc k → length_within n (x / 10) ≤ suc k)
        → (if t then 1 else suc (length_within n (x / 10))) ≤ suc k
    by-test true e k h tenth = omega arith
    by-test false e zero h tenth = let b = ltb-false x 10 e in absurd (omega arith)
    by-test false e (suc k) h tenth = let i = tenth k (omega (arith, pow-suc 10 (suc k))) in omega arith

-- a number that k digits do not hold has more
within-least : (n x k : ℕ) → x ≤ n → 10 ^ k ≤ x → suc k ≤ length_within n x
unfolding length_within
within-least zero x zero l h = omega arith
within-least zero x (suc k) l h =
    let p : 1 ≤ 10 ^ k = pow-le-pow_right {n = 10} (lit< tt) {i = 0} {j = k} (omega arith) in
    absurd (omega (arith, pow-suc 10 k))
within-least (suc n) x zero l h = by-test (ltb x 10)
  where
    by-test : (t : Bool) → 1 ≤ (if t then 1 else suc (length_within n (x / 10)))
    by-test true = omega arith
    by-test false = omega arith
within-least (suc n) x (suc k) l h =
    let p : 1 ≤ 10 ^ k = pow-le-pow_right {n = 10} (lit< tt) {i = 0} {j = k} (omega arith) in
    let b : 10 ≤ x = omega (arith, pow-suc 10 k) in
    let i = within-least n (x / 10) k (omega arith) (omega (arith, pow-suc 10 k)) in
    rw (le-ltb x 10 b) (omega arith)

pub decimal-most : (x k : ℕ) → x < 10 ^ suc k → decimal_length x ≤ suc k
decimal-most x k h = within-most x x k h

pub decimal-length : (x : ℕ) → length (decimal x) ≡ decimal_length x
unfolding decimal
decimal-length x = digits-length 10 (decimal_length x) x

-- as many digits as are counted are the plain decimal
pub decimal-digits : (x n : ℕ) → n ≡ decimal_length x → digits 10 n x ≡ decimal x
unfolding decimal
decimal-digits x n e = ap (λ (k : ℕ). digits 10 k x) e

-- ## The two round trips

pub decimal-read : (x : ℕ) → decimal_in (decimal x) ≡ x
unfolding decimal
decimal-read x = number_digits 10 (lit< tt) (omega arith) (decimal_length x) x (within-below x x (omega arith))

-- a number that starts at 10 ^ k or above, and more digits behind it
fold-least : (cs : List ℕ) (x k : ℕ) → 10 ^ k ≤ x → 10 ^ (k + length cs) ≤ fold (then_digit 10) x cs
unfolding fold
fold-least [] x k h = let z : k + 0 ≡ k = omega arith in rw z h
fold-least (c ∷ cs) x k h =
    let z : k + suc (length cs) ≡ suc k + length cs = omega arith in
    rw z (fold-least cs (then_digit 10 x c) (suc k) (omega (arith, pow-suc 10 k)))

within-some : (n x : ℕ) → 1 ≤ length_within n x
unfolding length_within
within-some zero x = omega arith
within-some (suc n) x = by-test (ltb x 10)
  where
    by-test : (t : Bool) → 1 ≤ (if t then 1 else suc (length_within n (x / 10)))
    by-test true = omega arith
    by-test false = omega arith

-- a digit that is no zero counts
first-value : (c : ℕ) → is_digit 10 c ≡ true → (c ≡ 0x30 → ⊥) → 1 ≤ value_of c
first-value c h n = by-test (eqb (value_of c) 0) refl
  where
    by-test : (t : Bool) → eqb (value_of c) 0 ≡ t → 1 ≤ value_of c
    by-test true e =
        let z = eqb-true (value_of c) 0 e in
        absurd (n (sym (digit_value 10 c (omega arith) h) ∙ ap digit_of z))
    by-test false e = let z = eqb-false (value_of c) 0 e in omega arith

-- digits of which the first is no zero are as many as their number has
first-counts : (c : ℕ) (cs : List ℕ) → spells 10 (c ∷ cs) ≡ true → (eqb (length (c ∷ cs)) 1 || not (eqb c 0x30)) ≡ true
    → suc (length cs) ≤ decimal_length (decimal_in (c ∷ cs))
unfolding number_in fold all
first-counts c [] e h = within-some (decimal_in (c ∷ [])) (decimal_in (c ∷ []))
first-counts c (d ∷ cs) e h =
    let no_zero : not (eqb c 0x30) ≡ true = rw (ne_eqb (suc (suc (length cs))) 1 (λ z. omega arith)) at h in
    let v = first-value c (and_left (is_digit 10 c) (spells 10 (d ∷ cs)) e)
    (eqb-false c 0x30 (not-true (eqb c 0x30) no_zero)) in
    let one : 10 ^ 0 ≤ then_digit 10 0 c = omega arith in
    let z : 0 + length (d ∷ cs) ≡ length (d ∷ cs) = omega arith in
    let all_digits = rw z at (fold-least (d ∷ cs) (then_digit 10 0 c) 0 one) in
    within-least (decimal_in (c ∷ d ∷ cs)) (decimal_in (c ∷ d ∷ cs)) (length (d ∷ cs)) (omega arith) all_digits

pub decimal-written : (cs : List ℕ) → plain_decimal cs ≡ true → decimal (decimal_in cs) ≡ cs
unfolding decimal
decimal-written [] h = absurd (false≢true h)
decimal-written (c ∷ cs) h =
    let shaped = and_left (leb 1 (length (c ∷ cs)) && spells 10 (c ∷ cs)) (eqb (length (c ∷ cs)) 1
    || not (eqb c 0x30)) h in
    let spelt = and_right (leb 1 (length (c ∷ cs))) (spells 10 (c ∷ cs)) shaped in
    let first = and_right (leb 1 (length (c ∷ cs)) && spells 10 (c ∷ cs)) (eqb (length (c ∷ cs)) 1
    || not (eqb c 0x30)) h in
    let least = first-counts c cs spelt first in
    let most = decimal-most (decimal_in (c ∷ cs)) (length cs) (number-below 10 (c ∷ cs) spelt) in
    let same : decimal_length (decimal_in (c ∷ cs)) ≡ length (c ∷ cs) = omega arith in
    ap (λ (n : ℕ). digits 10 n (decimal_in (c ∷ cs))) same ∙ digits_number 10 (lit< tt) (omega arith) (c ∷ cs) spelt

-- ## With a sign

module _ (z : ℤ) (n : ℕ) (size : n ≡ nat_abs z) where
  pub signed-negative : lt_z z (pos 0) ≡ true → ascii "-" ++ decimal n ≡ signed_decimal z
  unfolding signed_decimal
  signed-negative e = rw e (ap (λ (m : ℕ). ascii "-" ++ decimal m) size)

  pub signed-positive : lt_z z (pos 0) ≡ false → decimal n ≡ signed_decimal z
  unfolding signed_decimal
  signed-positive e = rw e (ap decimal size)

-- ## Plain decimal, as code tests it

module _ (cs : List ℕ) where
  pub plain-empty : length cs < 1 → false ≡ plain_decimal cs
  plain-empty h = rw (lt-leb 1 (length cs) h)

  module _ (some : 1 ≤ length cs) where
    pub plain_other : spells 10 cs ≡ false → false ≡ plain_decimal cs
    plain_other e = rw (le-leb 1 (length cs) some, e)

    module _ (spelt : spells 10 cs ≡ true) where
      pub plain-single : length cs ≡ 1 → true ≡ plain_decimal cs
      plain-single l = rw (le-leb 1 (length cs) some, spelt, eq-eqb (length cs) 1 l)

      pub plain-several : (length cs ≡ 1 → ⊥) → not (eqb (get_or cs 0 0) 0x30) ≡ plain_decimal cs
      plain-several l = rw (le-leb 1 (length cs) some, spelt, ne_eqb (length cs) 1 l)

-- a number that starts with a zero and has more digits is below the power that they reach
zero-first : (cs : List ℕ) → spells 10 (0x30 ∷ cs) ≡ true → decimal_in (0x30 ∷ cs) < 10 ^ length cs
unfolding number_in fold all
zero-first cs h = number-below 10 cs (and_right (is_digit 10 0x30) (spells 10 cs) h)

-- so several digits that are as many as their number has do not start with a zero
counted-plain : (cs : List ℕ) → spells 10 cs ≡ true → length cs ≡ decimal_length (decimal_in cs) → plain_decimal cs ≡ true
counted-plain [] s l = absurd (let some = within-some (decimal_in []) (decimal_in []) in omega arith)
counted-plain (c ∷ []) s l = sym (plain-single (c ∷ []) (omega arith) s refl)
counted-plain (c ∷ d ∷ cs) s l = sym (plain-several (c ∷ d ∷ cs) (omega arith) s (λ one. omega arith))
    ∙ by-test (eqb c 0x30) refl
  where
    by-test : (t : Bool) → eqb c 0x30 ≡ t → not t ≡ true
    by-test true e =
        let first = eqb-true c 0x30 e in
        let low : decimal_in (c ∷ d ∷ cs) < 10 ^ suc (length cs) = rw first (zero-first (d ∷ cs) (rw first at s)) in
        let few = decimal-most (decimal_in (c ∷ d ∷ cs)) (length cs) low in
        absurd (omega arith)
    by-test false e = refl

pub decimal-plain : (x : ℕ) → plain_decimal (decimal x) ≡ true
unfolding decimal
decimal-plain x =
    let same = ap decimal_length (sym (decimal-read x)) in
    counted-plain (decimal x) (digits_are 10 (lit< tt) (omega arith) (decimal_length x) x)
    (digits-length 10 (decimal_length x) x ∙ same)

-- ## Behind a minus

pub positive-empty : (w : List ℕ) → length w < 1 → false ≡ is_negative w
positive-empty [] h = refl
positive-empty (c ∷ w) h = absurd (omega arith)

pub negative-some : (w : List ℕ) → is_negative w ≡ true → 1 ≤ length w
negative-some [] e = absurd (false≢true e)
negative-some (c ∷ w) e = omega arith

-- a part from the second character on is all but the first
pub rest-whole : (w : List ℕ) (n : ℕ) → n ≡ length w - 1 → take n (drop 1 w) ≡ drop 1 w
rest-whole w n e = take_all n (drop 1 w) (rw (length-drop 1 w) (omega arith))
