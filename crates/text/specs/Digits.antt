-- Numbers and bytes as digits, most significant first, in any base from 2 to 16; hexadecimal and decimal are the two in
-- use. The digits from ten on are A to F, and lower case is no digit.
--     digit_of v              the character of a value below 16
--     value_of c              the value of a character; 16 for one that is no digit
--     is_digit base c         whether a character is a digit below a base
--     spells base cs         whether every character is one; true of no characters
--     digits base n x        the n lowest digits of x
--     number_in base cs       the number that digits stand for; 0 for none
--     hex_digits n x          the n lowest hexadecimal digits of x
--     code_digits x           the sixteen digits of a 64-bit code
--     hex_of bs               the two hexadecimal digits of each byte, in turn
--     bytes_of cs             the bytes that pairs of digits stand for; a last digit without a partner is passed over
use Rattle.std.specs.Prelude.{ℕ, zero, suc, ◌+◌, ◌-◌, ◌*◌, ◌/◌, ◌%◌, Bool, ◌&&◌, List, [], ◌∷◌, ◌++◌, ltb, leb}
use Rattle.std.specs.Prelude.{if◌then◌else◌}
use Rattle.basic_laws.specs.Fold.{fold, all}

abbrev pub digit_of : ℕ → ℕ
digit_of v = if ltb v 10 then 0x30 + v else 0x37 + v

abbrev pub value_of : ℕ → ℕ
value_of c = if leb 0x30 c && leb c 0x39 then c - 0x30 else if leb 0x41 c && leb c 0x46 then c - 0x37 else 16

abbrev pub is_digit : ℕ → ℕ → Bool
is_digit base c = ltb (value_of c) base

-- whether every character is a digit below a base
abbrev pub spells : ℕ → List ℕ → Bool
spells base cs = all (is_digit base) cs

unfoldable pub digits : ℕ → ℕ → ℕ → List ℕ
digits base zero x = []
digits base (suc n) x = digits base n (x / base) ++ (digit_of (x % base) ∷ [])

-- a number followed by one digit more
abbrev pub then_digit : ℕ → ℕ → ℕ → ℕ
then_digit base x c = base * x + value_of c

unfoldable pub number_in : ℕ → List ℕ → ℕ
number_in base cs = fold (then_digit base) 0 cs

abbrev pub hex_digits : ℕ → ℕ → List ℕ
hex_digits n x = digits 16 n x

abbrev pub code_digits : ℕ → List ℕ
code_digits x = hex_digits 16 x

unfoldable pub hex_of : List ℕ → List ℕ
hex_of [] = []
hex_of (b ∷ bs) = hex_digits 2 b ++ hex_of bs

unfoldable pub bytes_of : List ℕ → List ℕ
bytes_of [] = []
bytes_of (h ∷ []) = []
bytes_of (h ∷ l ∷ cs) = (16 * value_of h + value_of l) ∷ bytes_of cs
