-- Numbers and their bits: lengths, there and back, one bit more at the end, a bit by its place, one bit replaced, and
-- bits in two parts.
use Rattle.std.specs.Prelude.{ℕ, zero, suc, ◌+◌, ◌*◌, ◌/◌, ◌%◌, ◌^◌, ◌<◌, ◌≤◌, ◌≡◌, refl, Bool, true, false, List, [], ◌∷◌, ◌++◌, eqb, length, get_or, set}
use Rattle.std.proofs.Common.{sym, ap, ◌∙◌, append_assoc, arith, pow-suc, mul_left_comm, eqb-true, lit<, length-append, get_or-append-add}
use Rattle.std.proofs.Math.Nat.{div-div-eq-div-mul, pow-succ'}
use Rattle.std.proofs.lemmas.Bool.{eqb-false}
use Rattle.std.specs.Int.Bits.{block_half, block_odd}
use Rattle.std.proofs.Math.ListN.{get_or-append}
use Rattle.basic_laws.specs.Bits.{odd, bit_at, bit_number, bits_of, number_of, bytes_bits}

-- ## Lengths

pub bits-length : (n x : ℕ) → length (bits_of n x) ≡ n
unfolding bits_of
bits-length zero x = refl
bits-length (suc n) x = ap suc (bits-length n (x / 2))

-- ## There and back

odd_number : (x : ℕ) → bit_number (odd x) ≡ x % 2
odd_number x = by-test (odd x) refl
  where
    by-test : (t : Bool) → odd x ≡ t → bit_number t ≡ x % 2
    by-test true e = sym (eqb-true (x % 2) 1 e)
    by-test false e = let n = eqb-false (x % 2) 1 e in omega arith

pub number-bits : (n x : ℕ) → x < 2 ^ n → number_of (bits_of n x) ≡ x
unfolding number_of bits_of
number-bits zero x h = omega arith
number-bits (suc n) x h =
    let k : x / 2 < 2 ^ n = omega (arith, pow-suc 2 n) in
    let e = number-bits n (x / 2) k in
    let o = odd_number x in
    omega arith

pub bits-number : (bs : List Bool) → bits_of (length bs) (number_of bs) ≡ bs
unfolding number_of bits_of
bits-number [] = refl
bits-number (true ∷ bs) =
    let e : (1 + 2 * number_of bs) % 2 ≡ 1 = omega arith in
    let f : (1 + 2 * number_of bs) / 2 ≡ number_of bs = omega arith in
    let i = bits-number bs in rw (e, f, i)
bits-number (false ∷ bs) =
    let e : (0 + 2 * number_of bs) % 2 ≡ 0 = omega arith in
    let f : (0 + 2 * number_of bs) / 2 ≡ number_of bs = omega arith in
    let i = bits-number bs in rw (e, f, i)

pub number_lt : (bs : List Bool) → number_of bs < 2 ^ length bs
unfolding number_of
number_lt [] = lit< tt
number_lt (true ∷ bs) = let h = number_lt bs in omega (arith, pow-suc 2 (length bs))
number_lt (false ∷ bs) = let h = number_lt bs in omega (arith, pow-suc 2 (length bs))

-- ## One bit more at the end

pub number-snoc : (bs : List Bool) (b : Bool) → number_of (bs ++ (b ∷ [])) ≡ number_of bs + bit_number b * 2 ^ length bs
unfolding number_of
number-snoc [] true = refl
number-snoc [] false = refl
number-snoc (a ∷ bs) true = let e = number-snoc bs true in omega (arith, pow-suc 2 (length bs))
number-snoc (a ∷ bs) false = let e = number-snoc bs false in omega arith

-- ## A bit by its place

half-then : (x i : ℕ) → x / 2 / 2 ^ i ≡ x / 2 ^ suc i
half-then x i = div-div-eq-div-mul x 2 (2 ^ i) ∙ ap (λ (k : ℕ). x / k) (sym (pow-suc 2 i ∙ omega arith))

pub bits_at : (n x i : ℕ) → i < n → get_or (bits_of n x) i false ≡ bit_at x i
unfolding bits_of
bits_at zero x i h = absurd (omega arith)
bits_at (suc n) x zero h = let e : x / 1 ≡ x = omega arith in ap odd (sym e)
bits_at (suc n) x (suc i) h = bits_at n (x / 2) i (omega arith) ∙ ap odd (half-then x i)

-- ## Bits in two parts

pub bits-append : (m n x : ℕ) → bits_of (m + n) x ≡ bits_of m x ++ bits_of n (x / 2 ^ m)
unfolding bits_of
bits-append zero n x =
    let z : 0 + n ≡ n = omega arith in let e : x / 1 ≡ x = omega arith in rw (z, e)
bits-append (suc m) n x =
    let s : suc m + n ≡ suc (m + n) = omega arith in
    rw s (ap (λ (t : List Bool). odd x ∷ t) (bits-append m n (x / 2)
    ∙ ap (λ (k : ℕ). bits_of m (x / 2) ++ bits_of n k) (half-then x m)))

-- what is above the lowest n bits leaves them
pub bits-block : (n a r : ℕ) → bits_of n (a * 2 ^ n + r) ≡ bits_of n r
unfolding bits_of
bits-block zero a r = refl
bits-block (suc n) a r = rw (
  block_odd a n r,
  block_half a n r,
) (ap (λ (t : List Bool). odd r ∷ t) (bits-block n a (r / 2)))

pub bytes-append : (a b : List ℕ) → bytes_bits (a ++ b) ≡ bytes_bits a ++ bytes_bits b
unfolding bytes_bits
bytes-append [] b = refl
bytes-append (x ∷ a) b = let i = bytes-append a b in rw (i, append_assoc)

pub bytes-length : (l : List ℕ) → length (bytes_bits l) ≡ 8 * length l
unfolding bytes_bits
bytes-length [] = refl
bytes-length (x ∷ l) = let i = bytes-length l in let b = bits-length 8 x in simp length-append (omega arith)

-- a number that is 0 or 1, as a truth value and back
pub one_bit : (n : ℕ) → n ≤ 1 → bit_number (eqb n 1) ≡ n
one_bit zero h = refl
one_bit (suc zero) h = refl
one_bit (suc (suc n)) h = absurd (omega arith)

-- ## Bits

-- one bit replaced: what it was worth goes, and what it is worth comes
pub number-set : (bs : List Bool) (i : ℕ) (b : Bool) → i < length bs
    → number_of (set bs i b) + bit_number (get_or bs i false) * 2 ^ i ≡ number_of bs + bit_number b * 2 ^ i
unfolding number_of
number-set [] i b h = absurd (omega arith)
number-set (a ∷ bs) zero b h = omega arith
number-set (a ∷ bs) (suc i) b h =
    let e = number-set bs i b (omega arith) in
    let twice : (n : ℕ) → n * 2 ^ suc i ≡ 2 * (n * 2 ^ i) = λ n. rw (pow-succ' 2 i) (mul_left_comm n 2 (2 ^ i)) in
    let x = twice (bit_number (get_or bs i false)) in let y = twice (bit_number b) in
    omega arith

-- the bits of a byte among those of all bytes
pub byte-bit : (l : List ℕ) (q j : ℕ) → j < 8 → q < length l
    → get_or (bytes_bits l) (8 * q + j) false ≡ bit_at (get_or l q 0) j
unfolding bytes_bits
byte-bit [] q j h k = absurd (omega arith)
byte-bit (x ∷ l) zero j h k =
    let e : 8 * 0 + j ≡ j = omega arith in
    let w : j < length (bits_of 8 x) = rw (bits-length 8 x) h in
    rw (e, get_or-append (bits_of 8 x) (bytes_bits l) false j w) (bits_at 8 x j h)
byte-bit (x ∷ l) (suc q) j h k =
    let e : 8 * suc q + j ≡ length (bits_of 8 x) + (8 * q + j) = rw (bits-length 8 x) (omega arith) in
    rw (e, get_or-append-add (bits_of 8 x) (bytes_bits l) (8 * q + j) false) (byte-bit l q j h (omega arith))
