-- The line that answers a read or a write at a code: REFUSAL PAD READING FINE. PAD is the nine bytes as they were sent,
-- READING the four digits of the reading, FINE the fine reading as a fraction, 0/0 where there is none.
--     reading_digits r        the digits of a reading, byte 1 of its register first
--     over n d               a number with a sign over another
--     access_fields           the four fields, as they are put
--     access_line             the line of an answer
use Rattle.std.specs.Prelude.{ℕ, List, [], ◌∷◌, ◌++◌, ℤ}
use Rattle.text.specs.Ascii.{ascii}
use Rattle.text.specs.Decimal.{decimal, signed_decimal}
use Rattle.text.specs.Digits.{hex_of}
use Rattle.text.specs.Putting.{line}
use Rattle.temperature.specs.Register.{register_of}
use Rattle.temperature.specs.declared.Reading.{Reading}
use Rattle.scratchpad.specs.declared.fine.FineDegrees.{FineDegrees}

abbrev pub reading_digits : Reading → List ℕ
reading_digits r = hex_of ((register_of r).high ∷ (register_of r).low ∷ [])

abbrev pub over : ℤ → ℕ → List ℕ
over n d = signed_decimal n ++ (ascii "/" ++ decimal d)

unfoldable pub access_fields : ℕ → List ℕ → Reading → ℤ → ℕ → List ℕ
access_fields refusal pad reading n d = line (decimal refusal ∷ hex_of pad ∷ reading_digits reading ∷ over n d ∷ [])

abbrev pub access_line : ℕ → List ℕ → Reading → FineDegrees → List ℕ
access_line refusal pad reading fine = access_fields refusal pad reading fine.numerator fine.denominator
