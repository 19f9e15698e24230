-- The CRC is linear: the register over the bitwise sum of two strings of equal length is the exclusive or of their two
-- registers. Step by step: the bit that leaves the sum's register is the sum of the two that leave, so the taps go into
-- both registers, into one, or into none; where they go in twice they cancel.
--     crc-bit-sum                 one bit
--     crc-sum                     two strings, from any two registers
--     crc-merge                   the bits of a number go in as zeros do, from the register with the number added
--     crc-own, crc-message        feeding the register its own value brings it to zero: a message followed by its CRC
use Rattle.std.specs.Prelude.{ℕ, zero, suc, ◌/◌, ◌^◌, ◌<◌, ◌≡◌, refl, Bool, true, false, List, [], ◌∷◌, ◌++◌, length}
use Rattle.std.proofs.Common.{sym, ap, ◌∙◌, append-nil, pow-suc, arith}
use Rattle.std.specs.Bool.{beq}
use Rattle.std.specs.Int.Bits.{bit_xor, xor_zero_r, xor_self}
use Rattle.std.specs.Prelude.{if◌then◌else◌}
use Rattle.basic_laws.specs.Fold.{fold}
use Rattle.basic_laws.specs.Bits.{odd, bits_of, bytes_bits}
use Rattle.basic_laws.specs.Sums.{plus, sum}
use Rattle.basic_laws.proofs.SumsLaws.{plus-self}
use Rattle.basic_laws.specs.XorLaws.{xor-half, odd-xor, xor-swap, xor_assoc}
use Rattle.crc.specs.Crc.{taps, crc_bit, crc_bits, crc_of}
use Rattle.crc.specs.Laws.{crc-none, crc-more, crc-bytes-append, crc-bytes-lt}

-- two sums agree where both pairs agree, or neither
sums-agree : (p q a b : Bool) → beq (plus p q) (plus a b) ≡ beq (beq p a) (beq q b)
sums-agree true true true true = refl
sums-agree true true true false = refl
sums-agree true true false true = refl
sums-agree true true false false = refl
sums-agree true false true true = refl
sums-agree true false true false = refl
sums-agree true false false true = refl
sums-agree true false false false = refl
sums-agree false true true true = refl
sums-agree false true true false = refl
sums-agree false true false true = refl
sums-agree false true false false = refl
sums-agree false false true true = refl
sums-agree false false true false = refl
sums-agree false false false true = refl
sums-agree false false false false = refl

-- the taps go in once, or twice and out again
taps-cancel : (t u : Bool) (x y : ℕ)
    → (if beq t u then bit_xor x y else bit_xor (bit_xor x y) taps)
    ≡ bit_xor (if t then x else bit_xor x taps) (if u then y else bit_xor y taps)
taps-cancel true true x y = refl
taps-cancel true false x y = xor_assoc x y taps
taps-cancel false true x y = xor-swap x y taps
taps-cancel false false x y =
    sym (xor_zero_r (bit_xor x y)) ∙ ap (bit_xor (bit_xor x y)) (sym (xor_self taps))
    ∙ sym (xor_assoc (bit_xor x y) taps taps)
    ∙ ap (λ (n : ℕ). bit_xor n taps) (xor-swap x y taps)
    ∙ xor_assoc (bit_xor x taps) y taps

pub crc-bit-sum : (r s : ℕ) (a b : Bool) → crc_bit (bit_xor r s) (plus a b) ≡ bit_xor (crc_bit r a) (crc_bit s b)
crc-bit-sum r s a b =
    ap (λ (p : Bool). if beq p (plus a b) then bit_xor r s / 2 else bit_xor (bit_xor r s / 2) taps) (odd-xor r s)
    ∙ ap (λ (n : ℕ). if beq (plus (odd r) (odd s)) (plus a b) then n else bit_xor n taps) (xor-half r s)
    ∙ ap (λ (t : Bool). if t then bit_xor (r / 2) (s / 2)
    else bit_xor (bit_xor (r / 2) (s / 2)) taps) (sums-agree (odd r) (odd s) a b)
    ∙ taps-cancel (beq (odd r) a) (beq (odd s) b) (r / 2) (s / 2)

pub crc-sum : (r s : ℕ) (a b : List Bool) → length a ≡ length b
    → crc_bits (bit_xor r s) (sum a b) ≡ bit_xor (crc_bits r a) (crc_bits s b)
unfolding sum
crc-sum r s [] [] h = crc-none (bit_xor r s) ∙ rw (crc-none r, crc-none s)
crc-sum r s [] (b ∷ m) h = absurd (omega arith)
crc-sum r s (a ∷ l) [] h = absurd (omega arith)
crc-sum r s (a ∷ l) (b ∷ m) h =
    let k : length l ≡ length m = omega arith in
    crc-more (bit_xor r s) (plus a b) (sum l m)
    ∙ ap (λ (n : ℕ). crc_bits n (sum l m)) (crc-bit-sum r s a b)
    ∙ crc-sum (crc_bit r a) (crc_bit s b) l m k
    ∙ rw (crc-more r a l, crc-more s b m)

-- ## A register fed with its own value

-- a bit that is the register's lowest only moves it
halved : (x : ℕ) → crc_bit x (odd x) ≡ x / 2
halved x = by-test (odd x)
  where
    by-test : (b : Bool) → (if beq b b then x / 2 else bit_xor (x / 2) taps) ≡ x / 2
    by-test true = refl
    by-test false = refl

-- what is left of x may be added to the register before the step or after it
xor-step-in : (r x : ℕ) → bit_xor (crc_bit r (odd x)) (x / 2) ≡ crc_bit (bit_xor r x) false
xor-step-in r x =
    ap (bit_xor (crc_bit r (odd x))) (sym (halved x)) ∙ sym (crc-bit-sum r x (odd x) (odd x))
    ∙ ap (crc_bit (bit_xor r x)) (plus-self (odd x))

pub crc-merge : (n r x : ℕ) → x < 2 ^ n → crc_bits r (bits_of n x) ≡ crc_bits (bit_xor r x) (bits_of n 0)
unfolding bits_of
crc-merge zero r x h = let e : x ≡ 0 = omega arith in rw e (ap (λ (y : ℕ). crc_bits y []) (sym (xor_zero_r r)))
crc-merge (suc n) r x h =
    let k : x / 2 < 2 ^ n = omega (arith, pow-suc 2 n) in
    crc-more r (odd x) (bits_of n (x / 2))
    ∙ crc-merge n (crc_bit r (odd x)) (x / 2) k
    ∙ ap (λ (y : ℕ). crc_bits y (bits_of n 0)) (xor-step-in r x)
    ∙ sym (crc-more (bit_xor r x) false (bits_of n 0))

pub crc-own : (r : ℕ) → r < 256 → crc_bits r (bits_of 8 r) ≡ 0
unfolding bits_of crc_bits fold
crc-own r h = crc-merge 8 r r h ∙ rw (xor_self r)

-- bytes followed by their CRC leave the register at zero
pub crc-message : (l : List ℕ) → crc_of (l ++ (crc_of l ∷ [])) ≡ 0
unfolding bytes_bits
crc-message l =
    crc-bytes-append l (crc_of l ∷ [])
    ∙ ap (crc_bits (crc_of l)) (append-nil (bits_of 8 (crc_of l)))
    ∙ crc-own (crc_of l) (crc-bytes-lt l)
