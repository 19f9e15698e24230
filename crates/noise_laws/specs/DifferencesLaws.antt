-- Differences are the ones of the sum, so that noise may be spoken of as one string: what is added.
--     differ-somewhere       strings that differ in a place are not the same
--     differences-ones       two strings of equal length differ in as many places as their sum has ones
--     sum-differs            a string and its sum with noise differ in as many places as the noise has ones
--     ones-within            all ones of the sum are where two strings differ
--     sum-within             a string and its sum with noise differ only where the noise has ones
use Rattle.std.specs.Prelude.{ℕ, ◌+◌, ◌<◌, ◌≤◌, ◌≡◌, refl, Bool, true, false, not, List, [], ◌∷◌, length, get_or}
use Rattle.std.proofs.Common.{sym, ap, ◌∙◌, arith}
use Rattle.std.specs.Bool.{beq}
use Rattle.std.proofs.lemmas.Bool.{false≢true}
use Rattle.std.specs.Prelude.{if◌then◌else◌}
use Rattle.basic_laws.specs.Bits.{bit_number}
use Rattle.basic_laws.specs.Sums.{plus, sum, ones}
use Rattle.basic_laws.proofs.SumsLaws.{plus-self, sum-at}
use Rattle.noise_laws.specs.Noise.{differences, OnlyWithin}

-- ## How many

differences-self : (a : List Bool) → differences a a ≡ 0
unfolding differences
differences-self [] = refl
differences-self (true ∷ a) = let e = differences-self a in omega arith
differences-self (false ∷ a) = let e = differences-self a in omega arith

pub differ-somewhere : (a b : List Bool) → 1 ≤ differences a b → a ≡ b → ⊥
differ-somewhere a b h e = let z : differences a b ≡ 0 = ap (differences a) (sym e) ∙ differences-self a in omega arith

pub differences-ones : (a b : List Bool) → length a ≡ length b → differences a b ≡ ones (sum a b)
unfolding sum differences ones
differences-ones [] [] h = refl
differences-ones [] (b ∷ m) h = absurd (omega arith)
differences-ones (a ∷ l) [] h = absurd (omega arith)
differences-ones (a ∷ l) (b ∷ m) h =
    let k : length l ≡ length m = omega arith in
    by-test (beq a b) (differences-ones l m k)
  where
    by-test : (t : Bool) → differences l m ≡ ones (sum l m)
        → (if t then 0 else 1) + differences l m ≡ bit_number (not t) + ones (sum l m)
    by-test true e = rw e
    by-test false e = rw e

pub sum-differs : (a n : List Bool) → length a ≡ length n → differences a (sum a n) ≡ ones n
unfolding sum differences ones
sum-differs [] [] h = refl
sum-differs [] (b ∷ n) h = absurd (omega arith)
sum-differs (x ∷ a) [] h = absurd (omega arith)
sum-differs (true ∷ a) (true ∷ n) h = let e = sum-differs a n (omega arith) in omega arith
sum-differs (true ∷ a) (false ∷ n) h = let e = sum-differs a n (omega arith) in omega arith
sum-differs (false ∷ a) (true ∷ n) h = let e = sum-differs a n (omega arith) in omega arith
sum-differs (false ∷ a) (false ∷ n) h = let e = sum-differs a n (omega arith) in omega arith

-- ## Where

plus_none : (t : Bool) → t ≡ plus t false
plus_none true = refl
plus_none false = refl

pub ones-within : (k : ℕ) (a b : List Bool) (w : OnlyWithin k a b) (j : ℕ) → get_or (sum a b) j false ≡ true
    → (w.0 ≤ j) × (j < w.0 + k)
ones-within k a b w j t =
    let differ : get_or a j false ≡ get_or b j false → ⊥
    = λ same.
    false≢true (sym (plus-self (get_or b j false)) ∙ ap (λ (u : Bool). plus u (get_or b j false)) (sym same)
    ∙ sym (sum-at a b j) ∙ t) in
    w.1 j differ

pub sum-within : (k i : ℕ) (a n : List Bool) → ((j : ℕ) → get_or n j false ≡ true → (i ≤ j) × (j < i + k))
    → OnlyWithin k a (sum a n)
sum-within k i a n h = (i, within)
  where
    within : (j : ℕ) → (get_or a j false ≡ get_or (sum a n) j false → ⊥) → (i ≤ j) × (j < i + k)
    within j d = h j (by_bit (get_or n j false) refl)
      where
        by_bit : (t : Bool) → get_or n j false ≡ t → get_or n j false ≡ true
        by_bit true e = e
        by_bit false e = absurd (d (plus_none (get_or a j false) ∙ ap (plus (get_or a j false)) (sym e)
            ∙ sym (sum-at a n j)))
