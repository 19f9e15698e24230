-- The lines that answer a read and a change of settings. Settings are two hexadecimal digits each, the version is in
-- plain decimal.
--     current_line c             REFUSAL HIGH LOW CONFIGURATION VERSION
--     change_line r v            REFUSAL VERSION
use Rattle.std.specs.Prelude.{ℕ, List, [], ◌∷◌}
use Rattle.text.specs.Decimal.{decimal}
use Rattle.text.specs.Digits.{hex_digits}
use Rattle.text.specs.Putting.{line}
use Rattle.settings.specs.declared.Current.{Current}

-- the five fields
unfoldable pub settings_fields : ℕ → ℕ → ℕ → ℕ → ℕ → List ℕ
settings_fields refusal high low configuration version =
    line (decimal refusal ∷ hex_digits 2 high ∷ hex_digits 2 low ∷ hex_digits 2 configuration ∷ decimal version ∷ [])

abbrev pub current_line : Current → List ℕ
current_line c = settings_fields c.refusal c.settings.high c.settings.low c.settings.configuration
    c.version

unfoldable pub change_line : ℕ → ℕ → List ℕ
change_line refusal version = line (decimal refusal ∷ decimal version ∷ [])
