-- The line that answers why a code is on the list: REFUSAL REASON READING HIGH LOW DIFFERS. The reason is its number,
-- the reading its signed count in the family's unit, the limits signed degrees, the last 0 or 1.
--     why_fields         the six fields, as they are put
--     why_line w         the line of an answer
use Rattle.std.specs.Prelude.{ℕ, Bool, List, [], ◌∷◌, ℤ}
use Rattle.text.specs.Decimal.{decimal, signed_decimal}
use Rattle.text.specs.Putting.{line, flag}
use Rattle.temperature.specs.Register.{count_of}
use Rattle.why.specs.Why.{reason_number}
use Rattle.why.specs.declared.rules.Why.{Why}

unfoldable pub why_fields : ℕ → ℕ → ℤ → ℤ → ℤ → Bool → List ℕ
why_fields refusal reason count high low differs =
    line (decimal refusal ∷ decimal reason ∷ signed_decimal count ∷ signed_decimal high ∷ signed_decimal low
    ∷ flag differs ∷ [])

abbrev pub why_line : Why → List ℕ
why_line w = why_fields w.refusal (reason_number w.reason) (count_of w.reading) w.high.0 w.low.0
    w.differs
