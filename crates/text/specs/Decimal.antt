-- A number of any size in plain decimal: as many digits as it needs, so that no zero stands in front of another digit;
-- 0 is one digit.
--     decimal x              the number in plain decimal
--     signed_decimal z        a number with a sign: how far it is from zero, with a minus in front where it is negative
--     is_negative cs          whether some characters start with a minus
--     decimal_in cs           the number that decimal digits stand for
--     plain_decimal cs        whether some characters are a number in plain decimal: digits, the first of several no
--                            zero
use Rattle.std.specs.Prelude.{ℕ, zero, suc, ◌/◌, Bool, not, ◌&&◌, ◌||◌, List, ◌++◌, eqb, leb, ltb, ℤ, pos, nat_abs, length, get_or}
use Rattle.std.specs.Int.Signed.{lt_z}
use Rattle.std.specs.Prelude.{if◌then◌else◌}
use Rattle.text.specs.Ascii.{ascii}
use Rattle.text.specs.Digits.{digits, number_in, spells}

-- how many digits a number has, where at most n tenths are taken: one below ten, else one more than its tenth
unfoldable pub length_within : ℕ → ℕ → ℕ
length_within zero x = 1
length_within (suc n) x = if ltb x 10 then 1 else suc (length_within n (x / 10))

-- how many digits a number has; x tenths are more than enough
abbrev pub decimal_length : ℕ → ℕ
decimal_length x = length_within x x

unfoldable pub decimal : ℕ → List ℕ
decimal x = digits 10 (decimal_length x) x

unfoldable pub signed_decimal : ℤ → List ℕ
signed_decimal z = if lt_z z (pos 0) then ascii "-" ++ decimal (nat_abs z) else decimal (nat_abs z)

abbrev pub is_negative : List ℕ → Bool
is_negative cs = eqb (get_or cs 0 0) 0x2D

abbrev pub decimal_in : List ℕ → ℕ
decimal_in cs = number_in 10 cs

abbrev pub plain_decimal : List ℕ → Bool
plain_decimal cs = leb 1 (length cs) && spells 10 cs && (eqb (length cs) 1 || not (eqb (get_or cs 0 0) 0x30))
