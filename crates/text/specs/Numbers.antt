-- What the readers of a number answer: the number, or that there is none.
--     number_read base bound cs       digits below a base that stand for a number up to a bound
--     fixed_read base n cs            just n digits below a base, of a number below 2 ^ 64
--     decimal_read most bound cs      one to `most` decimal digits of a number up to a bound; zeros in front are taken
--     plain_read bound cs             a number in plain decimal of any size, or the bound where it is greater
use Rattle.std.specs.Prelude.{ℕ, min, true, false, ◌&&◌, List, eqb, leb, length}
use Rattle.std.specs.Prelude.{if◌then◌else◌}
use Rattle.text.specs.declared.NumberRead.{NumberRead}
use Rattle.text.specs.Decimal.{decimal_in, plain_decimal}
use Rattle.text.specs.Digits.{spells, number_in}

-- the answer where there is no such number
abbrev pub no_number : NumberRead
no_number = record { valid = false; number = 0 }

abbrev pub number_read : ℕ → ℕ → List ℕ → NumberRead
number_read base bound cs =
    if spells base cs && leb (number_in base cs) bound then record { valid = true; number = number_in base cs }
    else no_number

-- the greatest number of 64 bits
abbrev pub greatest : ℕ
greatest = 0xFFFFFFFFFFFFFFFF

-- the answer for just n digits below a base
abbrev pub fixed_read : ℕ → ℕ → List ℕ → NumberRead
fixed_read base n cs = if eqb (length cs) n then number_read base greatest cs else no_number

-- the answer for one to `most` decimal digits of a number up to a bound
abbrev pub decimal_read : ℕ → ℕ → List ℕ → NumberRead
decimal_read most bound cs = if leb 1 (length cs) && leb (length cs) most then number_read 10 bound cs else no_number

abbrev pub plain_read : ℕ → List ℕ → NumberRead
plain_read bound cs = if plain_decimal cs then record { valid = true; number = min (decimal_in cs) bound } else no_number
