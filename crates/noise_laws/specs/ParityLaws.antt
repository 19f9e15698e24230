-- One and three turned bits: X + 1 divides the polynomial. The taps have three ones, so each bit fed changes the parity
-- of the register's ones exactly where it is a 1, and bits that bring the register from zero to zero have an even
-- number of ones.
--     weight r                      the ones of a register
--     step-parity, crc-parity       one bit fed, any bits fed
--     even-ones                     bits that bring the register from zero to zero
use Rattle.std.specs.Prelude.{ℕ, zero, suc, ◌+◌, ◌/◌, ◌%◌, ◌^◌, ◌<◌, ◌≡◌, refl, Bool, true, false, List, [], ◌∷◌}
use Rattle.std.proofs.Common.{sym, ap, ◌∙◌, pow-suc, arith, lit<}
use Rattle.std.specs.Bool.{beq}
use Rattle.std.specs.Int.Bits.{bit_xor}
use Rattle.std.specs.Prelude.{if◌then◌else◌}
use Rattle.basic_laws.specs.Bits.{odd, bit_number, bits_of}
use Rattle.basic_laws.specs.BitsLaws.{bits-length}
use Rattle.basic_laws.specs.Sums.{ones}
use Rattle.basic_laws.proofs.SumsLaws.{sum-parity, bits-xor}
use Rattle.crc.specs.Crc.{taps, crc_bit, crc_bits}
use Rattle.crc.specs.Laws.{crc-none, crc-more, crc-bit-lt}

abbrev pub weight : ℕ → ℕ
weight r = ones (bits_of 8 r)

xor-parity : (x y : ℕ) → weight (bit_xor x y) % 2 ≡ (weight x + weight y) % 2
xor-parity x y =
    ap (λ (l : List Bool). ones l % 2) (bits-xor 8 x y)
    ∙ sum-parity (bits_of 8 x) (bits_of 8 y) (bits-length 8 x ∙ sym (bits-length 8 y))

no-higher : (n x : ℕ) → x < 2 ^ n → ones (bits_of (suc n) x) ≡ ones (bits_of n x)
unfolding ones bits_of
no-higher zero x h = let e : x ≡ 0 = omega arith in rw e
no-higher (suc n) x h =
    let k : x / 2 < 2 ^ n = omega (arith, pow-suc 2 n) in ap (λ (m : ℕ). bit_number (odd x) + m) (no-higher n (x / 2) k)

half-weight : (r : ℕ) → r < 256 → weight r ≡ bit_number (odd r) + weight (r / 2)
unfolding ones bits_of
half-weight r h = let k : r / 2 < 2 ^ 7 = omega arith in
    ap (λ (m : ℕ). bit_number (odd r) + m) (sym (no-higher 7 (r / 2) k))

taps-weight : weight taps ≡ 3
unfolding ones bits_of
taps-weight = refl

pub step-parity : (r : ℕ) (b : Bool) → r < 256 → weight (crc_bit r b) % 2 ≡ (weight r + bit_number b) % 2
step-parity r b h = by-test (odd r) b (half-weight r h)
  where
    tapped : weight (bit_xor (r / 2) taps) % 2 ≡ (weight (r / 2) + 3) % 2
    tapped = xor-parity (r / 2) taps ∙ ap (λ (m : ℕ). (weight (r / 2) + m) % 2) taps-weight

    by-test : (p b : Bool) → weight r ≡ bit_number p + weight (r / 2)
        → weight (if beq p b then r / 2 else bit_xor (r / 2) taps) % 2 ≡ (weight r + bit_number b) % 2
    by-test true true e = omega arith
    by-test true false e = let t = tapped in omega arith
    by-test false true e = let t = tapped in omega arith
    by-test false false e = omega arith

pub crc-parity : (r : ℕ) (l : List Bool) → r < 256 → weight (crc_bits r l) % 2 ≡ (weight r + ones l) % 2
unfolding ones
crc-parity r [] h = rw (crc-none r) (omega arith)
crc-parity r (b ∷ l) h =
    let s = step-parity r b h in
    let e = crc-parity (crc_bit r b) l (crc-bit-lt r b h) in
    ap (λ (n : ℕ). weight n % 2) (crc-more r b l) ∙ e ∙ omega arith

pub even-ones : (l : List Bool) → crc_bits 0 l ≡ 0 → ones l % 2 ≡ 0
unfolding ones bits_of
even-ones l e = let p = crc-parity 0 l (lit< tt) in let q : weight (crc_bits 0 l) ≡ 0 = ap weight e in omega arith
