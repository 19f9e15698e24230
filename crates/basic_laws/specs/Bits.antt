-- Numbers and their bits, least significant first, which is the order in which a 1-Wire bus sends them.
--     odd x            whether the lowest bit of x is 1
--     bit_at x i        bit i of x, false past its highest
--     bits_of n x       the n lowest bits of x
--     number_of bs      the number that has these bits; 0 for no bits
--     bytes_bits l      the bits of each byte of l, in turn
use Rattle.std.specs.Prelude.{ℕ, zero, suc, ◌+◌, ◌*◌, ◌/◌, ◌%◌, ◌^◌, Bool, true, false, List, [], ◌∷◌, ◌++◌, eqb}

abbrev pub odd : ℕ → Bool
odd x = eqb (x % 2) 1

abbrev pub bit_at : ℕ → ℕ → Bool
bit_at x i = odd (x / 2 ^ i)

-- 1 for true, 0 for false
abbrev pub bit_number : Bool → ℕ
bit_number true = 1
bit_number false = 0

unfoldable pub bits_of : ℕ → ℕ → List Bool
bits_of zero x = []
bits_of (suc n) x = odd x ∷ bits_of n (x / 2)

unfoldable pub number_of : List Bool → ℕ
number_of [] = 0
number_of (b ∷ bs) = bit_number b + 2 * number_of bs

unfoldable pub bytes_bits : List ℕ → List Bool
bytes_bits [] = []
bytes_bits (x ∷ l) = bits_of 8 x ++ bytes_bits l
