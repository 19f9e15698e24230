-- The lines that answer the call for address pins.
--     shared_text s           the shared pin number, or - where there is none
--     pins_line               REFUSAL CODES SHARED, the first line
--     pin_line, pin_lines      CODE PIN of a probe, and of all of them
--     of_pins o               the whole answer
use Rattle.std.specs.Prelude.{ℕ, List, [], ◌∷◌, ◌++◌, length}
use Rattle.text.specs.Ascii.{ascii}
use Rattle.text.specs.Decimal.{decimal}
use Rattle.text.specs.Digits.{code_digits}
use Rattle.text.specs.Putting.{line}
use Rattle.master_rules.specs.declared.SharedPin.{SharedPin}
use Rattle.master_rules.specs.declared.SharedPin.TheVariants.{NoPin, Pin}
use Rattle.master_rules.specs.Pins.{PinsOutcome, shared_pin}
use Rattle.bench_answers.specs.Said.{Answered, says}

abbrev pub shared_text : SharedPin → List ℕ
shared_text NoPin = ascii "-"
shared_text (Pin p) = decimal p

unfoldable pub pins_line : ℕ → ℕ → SharedPin → List ℕ
pins_line refusal codes shared = line (decimal refusal ∷ decimal codes ∷ shared_text shared ∷ [])

unfoldable pub pin_line : ℕ → ℕ → List ℕ
pin_line code pin = line (code_digits code ∷ decimal pin ∷ [])

unfoldable pub pin_lines : List ℕ → List ℕ → List ℕ
pin_lines [] pins = []
pin_lines (c ∷ codes) [] = []
pin_lines (c ∷ codes) (p ∷ pins) = pin_line c p ++ pin_lines codes pins

abbrev pub of_pins : PinsOutcome → Answered
of_pins o =
    let f = o.found in
    says (pins_line o.refusal (length f.codes) (shared_pin f.pins) ++ pin_lines f.codes f.pins) f.bench
