-- "The last byte is the CRC of what is before it" and "the register over everything ends at zero" are the same. Half of
-- a byte is below 128 and the taps are not, so a register goes to zero by a bit 0 only from 0, and by a bit 1 only from
-- 1. So bits that are all 0 bring no other register than 0 to zero; and a byte goes in as eight zeros do, from the
-- register with the byte added.
--     from_zero, from_one           the one register that a bit 0, or a bit 1, brings to zero
--     quiet                         bits that are all 0 bring no register but 0 to zero
--     holds-bits, holds-bytes       bits, or bytes, followed by a byte
use Rattle.std.specs.Prelude.{ℕ, ◌/◌, ◌%◌, ◌<◌, ◌≡◌, refl, Bool, true, false, List, [], ◌∷◌, ◌++◌, ◌↔◌}
use Rattle.std.proofs.Common.{sym, ap, ◌∙◌, append-nil, arith, eqb-true, lit<}
use Rattle.std.specs.Bool.{beq}
use Rattle.std.proofs.lemmas.Bool.{eqb-false}
use Rattle.std.specs.Int.Bits.{bit_xor}
use Rattle.std.proofs.lemmas.Nat.{xor_lt}
use Rattle.std.specs.Prelude.{if◌then◌else◌}
use Rattle.basic_laws.specs.Bits.{odd, bits_of, bytes_bits}
use Rattle.basic_laws.specs.Sums.{ones}
use Rattle.basic_laws.proofs.SumsLaws.{ones-zeros}
use Rattle.basic_laws.specs.XorLaws.{xor-none}
use Rattle.crc.specs.Crc.{taps, crc_bit, crc_bits, crc_of}
use Rattle.crc.specs.Laws.{crc-none, crc-more, crc-append, crc-bit-lt, crc-lt, crc-bytes-append, crc-bytes-lt}
use Rattle.crc.proofs.SumLaws.{crc-merge, crc-own}

pub from_zero : (y : ℕ) → y < 256 → crc_bit y false ≡ 0 → y ≡ 0
from_zero y h = by-test (odd y) refl
  where
    by-test : (t : Bool) → odd y ≡ t → (if beq t false then y / 2 else bit_xor (y / 2) taps) ≡ 0 → y ≡ 0
    by-test true o e = let k : y / 2 ≡ taps = xor-none (y / 2) taps e in absurd (omega arith)
    by-test false o e = let n = eqb-false (y % 2) 1 o in omega arith

pub from_one : (y : ℕ) → y < 256 → crc_bit y true ≡ 0 → y ≡ 1
from_one y h = by-test (odd y) refl
  where
    by-test : (t : Bool) → odd y ≡ t → (if beq t true then y / 2 else bit_xor (y / 2) taps) ≡ 0 → y ≡ 1
    by-test true o e = let n = eqb-true (y % 2) 1 o in omega arith
    by-test false o e = let k : y / 2 ≡ taps = xor-none (y / 2) taps e in absurd (omega arith)

pub quiet : (y : ℕ) (l : List Bool) → y < 256 → ones l ≡ 0 → crc_bits y l ≡ 0 → y ≡ 0
unfolding ones
quiet y [] h n e = sym (crc-none y) ∙ e
quiet y (true ∷ l) h n e = absurd (omega arith)
quiet y (false ∷ l) h n e =
    let k : ones l ≡ 0 = omega arith in
    from_zero y h (quiet (crc_bit y false) l (crc-bit-lt y false h) k (sym (crc-more y false l) ∙ e))

-- ## The byte that brings a register to zero is the register's own value

byte-own : (r x : ℕ) → r < 256 → x < 256 → crc_bits r (bits_of 8 x) ≡ 0 → x ≡ r
byte-own r x h k e =
    sym (xor-none r x (quiet (bit_xor r x) (bits_of 8 0) (xor_lt 8 r x h k) (ones-zeros 8) (sym (crc-merge 8 r x k) ∙ e)))

own-byte : (r x : ℕ) → r < 256 → x ≡ r → crc_bits r (bits_of 8 x) ≡ 0
own-byte r x h e = rw e (crc-own r h)

pub holds-bits : (l : List Bool) (x : ℕ) → x < 256 → (x ≡ crc_bits 0 l) ↔ (crc_bits 0 (l ++ bits_of 8 x) ≡ 0)
holds-bits l x h =
    let c = crc-lt 0 l (lit< tt) in (
      λ (e : x ≡ crc_bits 0 l). crc-append 0 l (bits_of 8 x) ∙ own-byte (crc_bits 0 l) x c e,
      λ (e : crc_bits 0 (l ++ bits_of 8 x) ≡ 0). byte-own (crc_bits 0 l) x c (omega arith)
          (sym (crc-append 0 l (bits_of 8 x)) ∙ e),
    )

pub holds-bytes : (l : List ℕ) (x : ℕ) → x < 256 → (x ≡ crc_of l) ↔ (crc_of (l ++ (x ∷ [])) ≡ 0)
unfolding bytes_bits
holds-bytes l x h =
    let c = crc-bytes-lt l in
    let s : crc_of (l ++ (x ∷ [])) ≡ crc_bits (crc_of l) (bits_of 8 x)
    = crc-bytes-append l (x ∷ []) ∙ ap (crc_bits (crc_of l)) (append-nil (bits_of 8 x)) in (
      λ (e : x ≡ crc_of l). s ∙ own-byte (crc_of l) x c e,
      λ (e : crc_of (l ++ (x ∷ [])) ≡ 0). byte-own (crc_of l) x c (omega arith) (sym s ∙ e),
    )
