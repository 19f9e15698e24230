-- What holds of each thing that a bit can make of a byte holds of what it makes: `shifted-cases`. Bits put in one after
-- another make their number: `shifted-on`, and all eight `eight-in`.
use Rattle.std.specs.Prelude.{ℕ, suc, ◌+◌, ◌*◌, ◌/◌, ◌^◌, ◌≡◌, refl, Bool, true, false, [], ◌∷◌, ltb, eqb}
use Rattle.std.proofs.Common.{sym, ap, ◌∙◌, pow-suc, add-mul, mul_assoc, arith, pow-add, eqb-true}
use Rattle.std.specs.Prelude.{if◌then◌else◌}
use Rattle.basic_laws.specs.Bits.{bit_number, number_of}
use Rattle.commands.specs.declared.Shifted.{Shifted}
use Rattle.commands.specs.declared.Shifted.TheVariants.{Partial, Whole, Beyond}
use Rattle.commands.specs.Bytes.{shift_in, shifted}

pub shifted-cases : (s n : ℕ) (l : Bool) (P : Shifted → Type 0)
    → P (Partial (shift_in s l) (n + 1)) → (n ≡ 7 → P (Whole (shift_in s l))) → P Beyond → P (shifted s n l)
shifted-cases s n l P more whole beyond = by_tests (ltb n 7) (eqb n 7) refl
  where
    by_tests : (t u : Bool) → eqb n 7 ≡ u → P (if t then Partial (shift_in s l) (n + 1) else if u
        then Whole (shift_in s l) else Beyond)
    by_tests true u e = more
    by_tests false true e = whole (eqb-true n 7 e)
    by_tests false false e = beyond

-- a register with the number n of i bits in its upper end, and the next bit put in
pub shifted-on : (i k n : ℕ) (l : Bool) → i + k ≡ 7 → shift_in (n * 2 ^ suc k) l ≡ (n + bit_number l * 2 ^ i) * 2 ^ k
shifted-on i k n l e = rw low (by_bit l) ∙ sym (wide (bit_number l))
  where
    low : n * 2 ^ suc k ≡ n * 2 ^ k * 2
    low = ap (λ (j : ℕ). n * j) (pow-suc 2 k) ∙ sym (mul_assoc n (2 ^ k) 2)

    whole : 2 ^ i * 2 ^ k ≡ 128
    whole = sym (pow-add 2 i k) ∙ ap (λ (j : ℕ). 2 ^ j) e

    wide : (w : ℕ) → (n + w * 2 ^ i) * 2 ^ k ≡ n * 2 ^ k + w * 128
    wide w = add-mul n (w * 2 ^ i) (2 ^ k) ∙ ap (λ (j : ℕ). n * 2 ^ k + j) (mul_assoc w (2 ^ i) (2 ^ k)
        ∙ ap (λ (j : ℕ). w * j) whole)

    by_bit : (l : Bool) → n * 2 ^ k * 2 / 2 + (if l then 128 else 0) ≡ n * 2 ^ k + bit_number l * 128
    by_bit true = let m = n * 2 ^ k in omega arith
    by_bit false = let m = n * 2 ^ k in omega arith

-- eight bits put into an empty register
pub eight-in : (a b c d e f g h : Bool)
    → shift_in (shift_in (shift_in (shift_in (shift_in (shift_in (shift_in (shift_in 0 a) b) c) d) e) f) g) h
    ≡ number_of (a ∷ b ∷ c ∷ d ∷ e ∷ f ∷ g ∷ h ∷ [])
unfolding number_of
eight-in a b c d e f g h =
    rw (
      shifted-on 0 7 0 a refl,
      shifted-on 1 6 _ b refl,
      shifted-on 2 5 _ c refl,
      shifted-on 3 4 _ d refl,
      shifted-on 4 3 _ e refl,
      shifted-on 5 2 _ f refl,
      shifted-on 6 1 _ g refl,
      shifted-on 7 0 _ h refl,
    )
    (omega arith)
