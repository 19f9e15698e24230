-- The lines that answer the calls. Numbers are in plain decimal, one space stands between fields, a truth value is 0 or
-- 1.
--     bad_line                ?, to a line that matches no call
--     refusal_line            REFUSAL, of an adding, a finish or a power cycle
--     bit_line                REFUSAL PRESENCE of a reset, REFUSAL LINE of a slot
--     search_line             REFUSAL CODES PASSES SLOTS BYTES of a search
--     code_line, code_lines    a code that a search listed, and all of them
--     show_line               REFUSAL PAD8 EEPROM FLAG BUSY of a device, and zeros for a code that is not on the bench
use Rattle.std.specs.Prelude.{ℕ, Bool, false, List, [], ◌∷◌, ◌++◌, eqb, replicate}
use Rattle.std.specs.Prelude.{if◌then◌else◌}
use Rattle.refusals.specs.Refusals.{accepted}
use Rattle.text.specs.Ascii.{ascii}
use Rattle.text.specs.Decimal.{decimal}
use Rattle.text.specs.Digits.{code_digits, hex_of}
use Rattle.text.specs.Putting.{line, flag}
use Rattle.device.specs.declared.Activity.{Activity}
use Rattle.device.specs.declared.Activity.TheVariants.{Idle, Converting, Copying}
use Rattle.device.specs.declared.Settings.{Settings}
use Rattle.bench.specs.declared.Looked.{Looked}

abbrev pub bad_line : List ℕ
bad_line = line (ascii "?" ∷ [])

unfoldable pub refusal_line : ℕ → List ℕ
refusal_line r = line (decimal r ∷ [])

unfoldable pub bit_line : ℕ → Bool → List ℕ
bit_line r b = line (decimal r ∷ flag b ∷ [])

unfoldable pub search_line : ℕ → ℕ → ℕ → ℕ → ℕ → List ℕ
search_line r codes passes slots bytes = line
    (decimal r ∷ decimal codes ∷ decimal passes ∷ decimal slots ∷ decimal bytes ∷ [])

unfoldable pub code_line : ℕ → List ℕ
code_line code = line (code_digits code ∷ [])

unfoldable pub code_lines : List ℕ → List ℕ
code_lines [] = []
code_lines (c ∷ cs) = code_line c ++ code_lines cs

-- the six digits of EEPROM bytes; a family without a configuration holds 0 there
abbrev pub settings_digits : Settings → List ℕ
settings_digits s = hex_of (s.high ∷ s.low ∷ s.configuration ∷ [])

-- 0 idle, 1 converting, 2 copying
abbrev pub busy_digit : Activity → List ℕ
busy_digit Idle = ascii "0"
busy_digit Converting = ascii "1"
busy_digit (Copying s) = ascii "2"

-- what is shown of a device
unfoldable pub record_line : ℕ → List ℕ → Settings → Bool → Activity → List ℕ
record_line r pad eeprom alarm activity = line
    (decimal r ∷ hex_of pad ∷ settings_digits eeprom ∷ flag alarm ∷ busy_digit activity ∷ [])

-- a device, or the refusal and zeros
unfoldable pub show_line : Looked → List ℕ
show_line l =
    let d = l.device in
    if eqb l.refusal accepted then record_line accepted d.scratchpad d.eeprom d.alarm d.activity
    else record_line l.refusal (replicate 8 0) (record { high = 0; low = 0; configuration = 0 }) false Idle
