-- How much noise a CRC can let pass, as one statement in five parts: `NoiseClaim`. Noise is a string of bits that is
-- added to what was sent: a 1 turns the bit at its place.
--     Linear                         the CRC of the bitwise sum of two strings of equal length is the sum of their CRCs
--     Distance                       two different strings of equal length that both bring the register to zero: up to
--                                    127 bits they differ in at least four places, and at any length not only within
--                                    eight neighbours
--     polynomial_at i k               the polynomial X^8 + X^5 + X^4 + 1 as noise: its terms, the highest first, behind
--                                    i bits and before k that stay
--     first_and_last                   noise on 128 bits that turns the first and the last
--     Hides n noise                  this noise turns n bits of any string of its length and leaves the register as it
--                                    was
--     Tight                          no larger number can be promised: the polynomial hides anywhere, four bits within
--                                    nine neighbours; among 128 bits two can hide
--     Noticed X Is sent refusal      what this means for things of X, those that Is admits, that are sent as bits and
--                                    may be refused with 5
--     NineBytes pad                  nine bytes, as `judge` takes them
--     ScratchpadsNoticed             of scratchpads, by the refusal of `judged` for any family
--     CodesNoticed                   of codes, by `code_refusal`
use Rattle.std.specs.Prelude.{ℕ, ◌^◌, ◌<◌, ◌≤◌, ◌≡◌, Bool, true, false, List, [], ◌∷◌, ◌++◌, ◌↔◌, length, replicate}
use Rattle.std.specs.Int.Bits.{bit_xor}
use Rattle.basic_laws.specs.Bits.{bytes_bits}
use Rattle.basic_laws.specs.Bytes.{Bytes}
use Rattle.basic_laws.specs.Sums.{sum}
use Rattle.refusals.specs.Refusals.{wrong_crc}
use Rattle.crc.specs.Crc.{crc_bits}
use Rattle.rom.specs.Code.{code_bits, code_refusal}
use Rattle.scratchpad.specs.Judgement.{judged}
use Rattle.noise_laws.specs.Noise.{differences, OnlyWithin, Slight}

-- ## Strings of bits

abbrev pub Linear : Type 0
Linear = (a b : List Bool) → length a ≡ length b → crc_bits 0 (sum a b) ≡ bit_xor (crc_bits 0 a) (crc_bits 0 b)

pub record Distance : Type 0 where
  pub four-places : (a b : List Bool) → length a ≡ length b → length a ≤ 127
      → crc_bits 0 a ≡ 0 → crc_bits 0 b ≡ 0 → (a ≡ b → ⊥) → 4 ≤ differences a b
  pub no-burst : (a b : List Bool) → length a ≡ length b → crc_bits 0 a ≡ 0 → crc_bits 0 b ≡ 0 → (a ≡ b → ⊥)
      → OnlyWithin 8 a b → ⊥

-- ## Noise that hides

abbrev pub polynomial_at : ℕ → ℕ → List Bool
polynomial_at i k =
    replicate i false
    ++ (true ∷ false ∷ false ∷ true ∷ true ∷ false ∷ false ∷ false ∷ true ∷ [])
    ++ replicate k false

abbrev pub first_and_last : List Bool
first_and_last = true ∷ replicate 126 false ++ (true ∷ [])

abbrev pub Hides : ℕ → List Bool → Type 0
Hides n noise =
    (a : List Bool) → length a ≡ length noise
    → (crc_bits 0 (sum a noise) ≡ crc_bits 0 a) × (differences a (sum a noise) ≡ n)

pub record Tight : Type 0 where
  pub polynomial-hides : (i k : ℕ) → Hides 4 (polynomial_at i k)
  pub nine-neighbours : (i k : ℕ) (a : List Bool) → OnlyWithin 9 a (sum a (polynomial_at i k))
  pub two-hide : (length first_and_last ≡ 128) × Hides 2 first_and_last

-- ## Scratchpads and codes

pub record Noticed (X : Type 0) (Is : X → Type 0) (sent : X → List Bool) (refusal : X → ℕ) : Type 0 where
  -- the CRC holds, which is that 5 is not given, exactly where the register over all the bits ends at zero
  pub held : (x : X) → Is x → (refusal x ≡ wrong_crc → ⊥) ↔ (crc_bits 0 (sent x) ≡ 0)
  -- slight noise on one whose CRC holds is refused with 5
  pub noticed : (x y : X) → Is x → Is y → (refusal x ≡ wrong_crc → ⊥) → Slight (sent x) (sent y) → refusal y ≡ wrong_crc
  -- two different ones whose CRCs hold are apart
  pub apart : (x y : X) → Is x → Is y → (refusal x ≡ wrong_crc → ⊥) → (refusal y ≡ wrong_crc → ⊥) → (x ≡ y → ⊥)
      → (4 ≤ differences (sent x) (sent y)) × (OnlyWithin 8 (sent x) (sent y) → ⊥)
  -- the polynomial on one whose CRC holds is not refused with 5
  pub hidden : (x y : X) (i k : ℕ) → Is x → Is y → length (sent x) ≡ length (polynomial_at i k)
      → sent y ≡ sum (sent x) (polynomial_at i k) → (refusal x ≡ wrong_crc → ⊥) → refusal y ≡ wrong_crc → ⊥

pub record NineBytes (pad : List ℕ) : Type 0 where
  pub nine : length pad ≡ 9
  pub bytes : Bytes pad

abbrev pub ScratchpadsNoticed : Type 0
ScratchpadsNoticed = (family : ℕ) → Noticed (List ℕ) NineBytes bytes_bits (λ pad. (judged family pad).refusal)

abbrev pub CodesNoticed : Type 0
CodesNoticed = Noticed ℕ (λ code. code < 2 ^ 64) code_bits code_refusal

pub record NoiseClaim : Type 0 where
  pub linear : Linear
  pub distance : Distance
  pub tight : Tight
  pub scratchpads : ScratchpadsNoticed
  pub codes : CodesNoticed
