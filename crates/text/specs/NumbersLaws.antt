-- A number along a loop that reads one digit a turn and stops at a character that is no digit or past a bound, and what
-- a reader answers where the digits are known.
use Rattle.std.specs.Prelude.{ℕ, ◌+◌, ◌-◌, ◌*◌, ◌/◌, ◌^◌, ◌<◌, ◌≤◌, ◌≡◌, refl, Bool, true, false, not, ◌&&◌, ◌||◌, List, [], ◌∷◌, eqb, leb, length, take, drop, get_or}
use Rattle.std.proofs.Common.{sym, ap, ◌∙◌, arith, le_of_lt, mul_comm, mul-le-mul_right, one-mul, le-div_iff_mul-le, div-lt_iff_lt-mul, le-leb, lt-ltb, le-ltb, eq-eqb, eqb-true, leb-true, leb-false, lit<, take-append-drop}
use Rattle.std.proofs.Math.Bool.{and-false}
use Rattle.std.proofs.lemmas.Bool.{false≢true, lt-leb}
use Rattle.std.proofs.Math.Nat.{min-eq_left, min-eq_right, one-le-pow, pow-le-pow_right}
use Rattle.std.specs.Prelude.{if◌then◌else◌}
use Rattle.basic_laws.specs.ChoiceLaws.{and_left, and_right}
use Rattle.basic_laws.specs.Fold.{fold}
use Rattle.basic_laws.specs.FoldLaws.{fold-append, all_from}
use Rattle.text.specs.Digits.{value_of, is_digit, spells, then_digit, number_in}
use Rattle.text.specs.DigitsLaws.{number-next, number-below}
use Rattle.text.specs.Decimal.{decimal_in, plain_decimal}
use Rattle.text.specs.Numbers.{no_number, number_read, greatest, fixed_read, decimal_read, plain_read}

-- ## Along the loop

-- digits behind a number make it no smaller
fold-grows : (base : ℕ) → 0 < base → (cs : List ℕ) (x : ℕ) → x ≤ fold (then_digit base) x cs
unfolding fold
fold-grows base some [] x = omega arith
fold-grows base some (c ∷ cs) x =
    let i = fold-grows base some cs (then_digit base x c) in
    let m : 1 * x ≤ base * x = mul-le-mul_right x some in
    let o = one-mul x in
    omega arith

pub number-grows : (base : ℕ) → 0 < base → (cs : List ℕ) (i : ℕ) → number_in base (take i cs) ≤ number_in base cs
unfolding number_in
number-grows base some cs i =
    let e : fold (then_digit base) 0 cs ≡ fold (then_digit base) (fold (then_digit base) 0 (take i cs)) (drop i cs) =
    ap (fold (then_digit base) 0) (sym (take-append-drop i cs))
    ∙ fold-append (then_digit base) 0 (take i cs) (drop i cs) in
    rw e (fold-grows base some (drop i cs) (fold (then_digit base) 0 (take i cs)))

-- a digit more keeps the bound just where the number before it is at most what the bound leaves
pub digit-fits : (base x d bound : ℕ) → 0 < base → d ≤ bound → x ≤ (bound - d) / base → base * x + d ≤ bound
digit-fits base x d bound some small h =
    let m : x * base ≤ bound - d = (le-div_iff_mul-le some).0 h in
    let c = mul_comm x base in
    omega arith

pub digit-exceeds : (base x d bound : ℕ) → 0 < base → d ≤ bound → (bound - d) / base < x → bound < base * x + d
digit-exceeds base x d bound some small h =
    let m : bound - d < x * base = (div-lt_iff_lt-mul some).0 h in
    let c = mul_comm x base in
    omega arith

-- one turn: the character at i is no digit, or a digit, or takes the number past the bound
module _ (base bound : ℕ) (cs : List ℕ) (i : ℕ) (within : i < length cs) where
  pub turn-other : base ≤ value_of (get_or cs i 0) → spells base (drop i cs) ≡ false
  turn-other h = rw (all_from (is_digit base) cs 0 i within, le-ltb (value_of (get_or cs i 0)) base h)

  pub turn-digit : value_of (get_or cs i 0) < base → spells base (drop i cs) ≡ spells base (drop (i + 1) cs)
  turn-digit h = rw (all_from (is_digit base) cs 0 i within, lt-ltb (value_of (get_or cs i 0)) base h)

  pub turn-past : 0 < base → bound < base * number_in base (take i cs) + value_of (get_or cs i 0) → bound < number_in base cs
  turn-past some h =
      let e = number-next base cs i within in
      let g = number-grows base some cs (i + 1) in
      omega arith

-- ## What a reader answers

module _ (base bound : ℕ) (cs : List ℕ) where
  pub read_number : spells base cs ≡ true → number_in base cs ≤ bound
      → record { valid = true; number = number_in base cs } ≡ number_read base bound cs
  read_number s h = rw (s, le-leb (number_in base cs) bound h)

  pub read-other : spells base cs ≡ false → no_number ≡ number_read base bound cs
  read-other s = rw s

  pub read_past : bound < number_in base cs → no_number ≡ number_read base bound cs
  read_past h = rw (lt-leb (number_in base cs) bound h, and-false (spells base cs))

-- few hexadecimal digits are always a number
pub fixed-hex : (n : ℕ) (cs : List ℕ) → length cs ≡ n → n ≤ 16 → spells 16 cs ≡ true
    → fixed_read 16 n cs ≡ record { valid = true; number = number_in 16 cs }
fixed-hex n cs l few s =
    let below = number-below 16 cs s in
    let power : 16 ^ length cs ≤ 16 ^ 16 = let k : length cs ≤ 16 = rw l few in pow-le-pow_right {n = 16} (lit< tt) k in
    let b : number_in 16 cs ≤ greatest = omega arith in
    rw (eq-eqb (length cs) n l) (sym (read_number 16 greatest cs s b))

-- ## How great a number is that a reader answers

module _ (base bound : ℕ) (cs : List ℕ) where
  pub number-most : (number_read base bound cs).number ≤ bound
  number-most = by-test (spells base cs) (leb (number_in base cs) bound) refl
    where
      by-test : (s t : Bool) → leb (number_in base cs) bound ≡ t
          → (if s && t then record { valid = true; number = number_in base cs } else no_number).number ≤ bound
      by-test true true e = leb-true (number_in base cs) bound e
      by-test true false e = omega arith
      by-test false t e = omega arith

pub decimal-at-most : (most bound : ℕ) (cs : List ℕ) → (decimal_read most bound cs).number ≤ bound
decimal-at-most most bound cs = by-test (leb 1 (length cs) && leb (length cs) most) (number-most 10 bound cs)
  where
    by-test : (t : Bool) → (number_read 10 bound cs).number ≤ bound
        → (if t then number_read 10 bound cs else no_number).number ≤ bound
    by-test true h = h
    by-test false h = omega arith

-- so many digits stay below that power of the base
pub fixed-below : (base n : ℕ) (cs : List ℕ) → 0 < base → (fixed_read base n cs).number < base ^ n
fixed-below base n cs some = by_length (eqb (length cs) n) refl
  where
    positive : 0 < base ^ n
    positive = one-le-pow n base some

    by-spelling : (s t : Bool) → spells base cs ≡ s → length cs ≡ n
        → (if s && t then record { valid = true; number = number_in base cs } else no_number).number < base ^ n
    by-spelling true true e l = rw (← l) (number-below base cs e)
    by-spelling true false e l = positive
    by-spelling false t e l = positive

    by_length : (t : Bool) → eqb (length cs) n ≡ t
        → (if t then number_read base greatest cs else no_number).number < base ^ n
    by_length true e = by-spelling (spells base cs) (leb (number_in base cs) greatest) refl (eqb-true (length cs) n e)
    by_length false e = positive

-- ## Plain decimal

module _ (bound : ℕ) (cs : List ℕ) where
  pub plain-none : plain_decimal cs ≡ false → no_number ≡ plain_read bound cs
  plain-none e = rw e

  pub plain-within : plain_decimal cs ≡ true → (number_read 10 bound cs).valid ≡ true
      → number_read 10 bound cs ≡ plain_read bound cs
  plain-within e v =
      let both = valid-both v in
      let small = leb-true (decimal_in cs) bound (and_right (spells 10 cs) (leb (decimal_in cs) bound) both) in
      rw (e, both, min-eq_left small)
    where
      valid-both : (number_read 10 bound cs).valid ≡ true → (spells 10 cs && leb (decimal_in cs) bound) ≡ true
      valid-both = by-test (spells 10 cs && leb (decimal_in cs) bound)
        where
          by-test : (t : Bool) → (if t then record { valid = true; number = decimal_in cs } else no_number).valid ≡ true
              → t ≡ true
          by-test true h = refl
          by-test false h = h

  pub plain-beyond : plain_decimal cs ≡ true → (number_read 10 bound cs).valid ≡ false
      → record { valid = true; number = bound } ≡ plain_read bound cs
  plain-beyond e v = by-test (leb (decimal_in cs) bound) refl v
    where
      spelt : spells 10 cs ≡ true
      spelt = and_right (leb 1 (length cs)) (spells 10 cs)
          (and_left (leb 1 (length cs) && spells 10 cs) (eqb (length cs) 1 || not (eqb (get_or cs 0 0) 0x30)) e)

      by-test : (t : Bool) → leb (decimal_in cs) bound ≡ t → (number_read 10 bound cs).valid ≡ false
          → record { valid = true; number = bound } ≡ plain_read bound cs
      by-test true h v = absurd (false≢true (sym (rw (spelt, h) at v)))
      by-test false h v = let k = leb-false (decimal_in cs) bound h in rw (e, min-eq_right (le_of_lt k))
