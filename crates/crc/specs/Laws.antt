-- Laws of the CRC, cited in place of its definition.
--     crc-none, crc-more, crc-append      the register over no bits, one bit more, and two runs of bits
--     crc-bytes-append, crc-byte-more     the CRC of bytes goes on where it stood
--     crc-bit-lt, crc-lt, crc-bytes-lt    the register stays a byte
--     crc-turn, crc-done, crc-byte-turn   the bits of a number, as a loop takes them one by one or by whole bytes
use Rattle.std.specs.Prelude.{ℕ, suc, ◌+◌, ◌*◌, ◌-◌, ◌/◌, ◌%◌, ◌<◌, ◌≤◌, ◌≡◌, refl, Bool, true, false, List, [], ◌∷◌, ◌++◌, length, get_or, take}
use Rattle.std.proofs.Common.{sym, ap, ◌∙◌, append-nil, add-one, arith, lit<, take-suc}
use Rattle.std.specs.Bool.{beq}
use Rattle.std.specs.Int.Bits.{bit_xor}
use Rattle.std.proofs.lemmas.Nat.{xor_lt}
use Rattle.std.specs.Prelude.{if◌then◌else◌}
use Rattle.basic_laws.specs.Fold.{fold}
use Rattle.basic_laws.specs.FoldLaws.{fold-append}
use Rattle.basic_laws.specs.Bits.{odd, bits_of, bytes_bits}
use Rattle.basic_laws.specs.BitsLaws.{bits-append, bits-block, bytes-append}
use Rattle.crc.specs.Crc.{taps, crc_bit, crc_bits, crc_of}

pub crc-none : (r : ℕ) → crc_bits r [] ≡ r
unfolding crc_bits fold
crc-none r = refl

pub crc-more : (r : ℕ) (b : Bool) (bs : List Bool) → crc_bits r (b ∷ bs) ≡ crc_bits (crc_bit r b) bs
unfolding crc_bits fold
crc-more r b bs = refl

pub crc-append : (r : ℕ) (a b : List Bool) → crc_bits r (a ++ b) ≡ crc_bits (crc_bits r a) b
unfolding crc_bits
crc-append r a b = fold-append crc_bit r a b

pub crc-bytes-append : (a b : List ℕ) → crc_of (a ++ b) ≡ crc_bits (crc_of a) (bytes_bits b)
unfolding crc_of
crc-bytes-append a b = ap (crc_bits 0) (bytes-append a b) ∙ crc-append 0 (bytes_bits a) (bytes_bits b)

-- one byte more
pub crc-byte-more : (l : List ℕ) (i : ℕ) → i < length l
    → crc_bits (crc_of (take i l)) (bits_of 8 (get_or l i 0)) ≡ crc_of (take (i + 1) l)
unfolding bytes_bits
crc-byte-more l i h =
    rw (add-one i, take-suc l i 0, crc-bytes-append (take i l) (get_or l i 0 ∷ []), append-nil (bits_of 8 (get_or l i 0)))

-- ## The bits of a number, one after another, as a loop of halvings takes them

pub crc-turn : (r x n i : ℕ) → i < n → crc_bits r (bits_of (n - i) x)
    ≡ crc_bits (crc_bit r (odd x)) (bits_of (n - (i + 1)) (x / 2))
unfolding bits_of
crc-turn r x n i h = let e : n - i ≡ suc (n - (i + 1)) = omega arith in
    rw e (crc-more r (odd x) (bits_of (n - (i + 1)) (x / 2)))

pub crc-done : (r x n i : ℕ) → n ≤ i → crc_bits r (bits_of (n - i) x) ≡ r
unfolding bits_of
crc-done r x n i h = let e : n - i ≡ 0 = omega arith in rw e (crc-none r)

-- the same by whole bytes
pub crc-byte-turn : (r x n : ℕ) → 8 ≤ n → crc_bits (crc_bits r (bits_of 8 (x % 256))) (bits_of (n - 8) (x / 256))
    ≡ crc_bits r (bits_of n x)
crc-byte-turn r x n h =
    let parts : x / 256 * 256 + x % 256 ≡ x = omega arith in
    let all : 8 + (n - 8) ≡ n = omega arith in
    sym (crc-append r (bits_of 8 (x % 256)) (bits_of (n - 8) (x / 256)))
    ∙ ap (λ (low : List Bool). crc_bits r (low ++ bits_of (n - 8) (x / 256)))
    (sym (bits-block 8 (x / 256) (x % 256)) ∙ ap (bits_of 8) parts)
    ∙ ap (crc_bits r) (sym (bits-append 8 (n - 8) x))
    ∙ ap (λ (m : ℕ). crc_bits r (bits_of m x)) all

-- ## The register stays a byte

pub crc-bit-lt : (r : ℕ) (b : Bool) → r < 256 → crc_bit r b < 256
crc-bit-lt r b h = by-test (beq (odd r) b)
  where
    by-test : (t : Bool) → (if t then r / 2 else bit_xor (r / 2) taps) < 256
    by-test true = omega arith
    by-test false = xor_lt 8 (r / 2) taps (omega arith) (lit< tt)

pub crc-lt : (r : ℕ) (bs : List Bool) → r < 256 → crc_bits r bs < 256
unfolding crc_bits fold
crc-lt r [] h = h
crc-lt r (b ∷ bs) h = crc-lt (crc_bit r b) bs (crc-bit-lt r b h)

pub crc-bytes-lt : (l : List ℕ) → crc_of l < 256
unfolding crc_of
crc-bytes-lt l = crc-lt 0 (bytes_bits l) (lit< tt)
