-- Laws of sums of bits and of the ones of a string.
--     plus-self                    a bit and itself
--     sum-length, sum-at           the sum is as long as the two strings, and at each place the sum of their bits
--     sum-parity                   it has as many ones as both together, but for an even number
--     bits-xor                     the bits of an exclusive or are the sum of the bits
--     same-if-none                 strings of equal length whose sum has no ones are the same
--     ones-append, ones-zeros      the ones of two parts together, and of zeros
--     none-anywhere                a string without a 1 at any place has no ones
use Rattle.std.specs.Prelude.{ℕ, zero, suc, ◌+◌, ◌/◌, ◌%◌, ◌≡◌, refl, Bool, true, false, List, [], ◌∷◌, ◌++◌, length, get_or}
use Rattle.std.proofs.Common.{ap, ◌∙◌, arith}
use Rattle.std.specs.Int.Bits.{bit_xor}
use Rattle.basic_laws.specs.Bits.{odd, bits_of}
use Rattle.basic_laws.specs.Sums.{plus, sum, ones}
use Rattle.basic_laws.specs.XorLaws.{xor-half, odd-xor}

-- ## Sums

pub plus-self : (b : Bool) → plus b b ≡ false
plus-self true = refl
plus-self false = refl

pub sum-length : (a b : List Bool) → length a ≡ length b → length (sum a b) ≡ length a
unfolding sum
sum-length [] [] h = refl
sum-length [] (b ∷ m) h = absurd (omega arith)
sum-length (a ∷ l) [] h = absurd (omega arith)
sum-length (a ∷ l) (b ∷ m) h = let k : length l ≡ length m = omega arith in ap suc (sum-length l m k)

pub sum-at : (a b : List Bool) (i : ℕ) → get_or (sum a b) i false ≡ plus (get_or a i false) (get_or b i false)
unfolding sum
sum-at [] b i = by_bit (get_or b i false)
  where
    by_bit : (t : Bool) → t ≡ plus false t
    by_bit true = refl
    by_bit false = refl
sum-at (x ∷ a) [] i = by_bit (get_or (x ∷ a) i false)
  where
    by_bit : (t : Bool) → t ≡ plus t false
    by_bit true = refl
    by_bit false = refl
sum-at (x ∷ a) (y ∷ b) zero = refl
sum-at (x ∷ a) (y ∷ b) (suc i) = sum-at a b i

pub sum-parity : (a b : List Bool) → length a ≡ length b → ones (sum a b) % 2 ≡ (ones a + ones b) % 2
unfolding ones sum
sum-parity [] [] h = refl
sum-parity [] (b ∷ m) h = absurd (omega arith)
sum-parity (a ∷ l) [] h = absurd (omega arith)
sum-parity (true ∷ l) (true ∷ m) h = let e = sum-parity l m (omega arith) in omega arith
sum-parity (true ∷ l) (false ∷ m) h = let e = sum-parity l m (omega arith) in omega arith
sum-parity (false ∷ l) (true ∷ m) h = let e = sum-parity l m (omega arith) in omega arith
sum-parity (false ∷ l) (false ∷ m) h = let e = sum-parity l m (omega arith) in omega arith

pub bits-xor : (n x y : ℕ) → bits_of n (bit_xor x y) ≡ sum (bits_of n x) (bits_of n y)
unfolding bits_of sum
bits-xor zero x y = refl
bits-xor (suc n) x y =
    ap (λ (b : Bool). b ∷ bits_of n (bit_xor x y / 2)) (odd-xor x y)
    ∙ ap (λ (t : List Bool). plus (odd x) (odd y) ∷ t) (ap (bits_of n) (xor-half x y) ∙ bits-xor n (x / 2) (y / 2))

pub same-if-none : (a b : List Bool) → length a ≡ length b → ones (sum a b) ≡ 0 → a ≡ b
unfolding sum ones
same-if-none [] [] h n = refl
same-if-none [] (b ∷ m) h n = absurd (omega arith)
same-if-none (a ∷ l) [] h n = absurd (omega arith)
same-if-none (true ∷ l) (true ∷ m) h n = ap (λ (t : List Bool). true ∷ t) (same-if-none l m (omega arith) (omega arith))
same-if-none (true ∷ l) (false ∷ m) h n = absurd (omega arith)
same-if-none (false ∷ l) (true ∷ m) h n = absurd (omega arith)
same-if-none (false ∷ l) (false ∷ m) h n = ap (λ (t : List Bool). false ∷ t)
    (same-if-none l m (omega arith) (omega arith))

-- ## Ones

pub ones-append : (a b : List Bool) → ones (a ++ b) ≡ ones a + ones b
unfolding ones
ones-append [] b = omega arith
ones-append (x ∷ a) b = let e = ones-append a b in omega arith

pub ones-zeros : (n : ℕ) → ones (bits_of n 0) ≡ 0
unfolding ones bits_of
ones-zeros zero = refl
ones-zeros (suc n) = let e = ones-zeros n in omega arith

pub none-anywhere : (a : List Bool) → ((i : ℕ) → get_or a i false ≡ true → ⊥) → ones a ≡ 0
unfolding ones
none-anywhere [] h = refl
none-anywhere (true ∷ a) h = absurd (h 0 refl)
none-anywhere (false ∷ a) h = let e = none-anywhere a (λ (i : ℕ). h (suc i)) in omega arith
