-- Sums of bits and of strings of bits, without carry, and how many bits are 1.
--     plus a b      the sum of two bits: whether they differ
--     sum a b       the bitwise sum of two strings, place by place; where one is longer, its rest
--     ones a        how many bits of a string are 1
use Rattle.std.specs.Prelude.{ℕ, ◌+◌, Bool, not, List, [], ◌∷◌}
use Rattle.std.specs.Bool.{beq}
use Rattle.basic_laws.specs.Bits.{bit_number}

abbrev pub plus : Bool → Bool → Bool
plus a b = not (beq a b)

unfoldable pub sum : List Bool → List Bool → List Bool
sum [] m = m
sum (a ∷ l) [] = a ∷ l
sum (a ∷ l) (b ∷ m) = plus a b ∷ sum l m

unfoldable pub ones : List Bool → ℕ
ones [] = 0
ones (b ∷ bs) = bit_number b + ones bs
