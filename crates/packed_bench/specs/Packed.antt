-- One device as 48 bytes, the layout of docs/TABLE.md.
--     packed_device d         the bytes of d: each field its own, then zeros
--     fields_of t             the record that is read from bytes, whatever they are
-- The places: 0 the code, 8 the scratchpad, 16 the stage, 20 the activity, 24 the settings in EEPROM, 27 the power, 28
-- the alarm flag, 29 the page (taken, unit, register, high, low), 35 the pins, 36 to 47 zeros.
use Rattle.std.specs.Prelude.{ℕ, ◌+◌, Bool, List, [], ◌∷◌, ◌++◌, eqb, get_or}
use Rattle.temperature.specs.Register.{register_of}
use Rattle.temperature.specs.declared.Reading.{Reading}
use Rattle.device.specs.declared.Device.{Device}
use Rattle.device.specs.declared.Page.{Page}
use Rattle.device.specs.declared.Settings.{Settings}
use Rattle.packed_bench.specs.Bytes.{eight_at, code_bytes, code_from_bytes}
use Rattle.packed_bench.specs.Parts.{truth_byte, power_byte, power_of, unit_byte, reading_from, case_of, stage_case}
use Rattle.packed_bench.specs.Parts.{stage_of, activity_case, activity_of}
use Rattle.packed_bench.specs.declared.record_parts.Case.{Case}

abbrev pub case_bytes : Case → List ℕ
case_bytes x = x.0 ∷ x.1 ∷ x.2 ∷ x.3 ∷ []

abbrev pub settings_bytes : Settings → List ℕ
settings_bytes s = s.high ∷ s.low ∷ s.configuration ∷ []

abbrev pub reading_bytes : Reading → List ℕ
reading_bytes r = unit_byte r ∷ (register_of r).low ∷ (register_of r).high ∷ []

abbrev pub page_bytes : Page → List ℕ
page_bytes p = truth_byte p.taken ∷ reading_bytes p.reading ++ (p.high ∷ p.low ∷ [])

-- what no field uses
abbrev pub padding : List ℕ
padding = 0 ∷ 0 ∷ 0 ∷ 0 ∷ 0 ∷ 0 ∷ 0 ∷ 0 ∷ 0 ∷ 0 ∷ 0 ∷ 0 ∷ []

unfoldable pub packed_device : Device → List ℕ
packed_device d =
    code_bytes d.code
    ++ eight_at d.scratchpad 0
    ++ case_bytes (stage_case d.stage)
    ++ case_bytes (activity_case d.activity)
    ++ settings_bytes d.eeprom
    ++ (power_byte d.power ∷ truth_byte d.alarm ∷ [])
    ++ page_bytes d.page
    ++ (d.pins ∷ [])
    ++ padding

abbrev pub case_at : List ℕ → ℕ → Case
case_at t i = case_of (get_or t i 0) (get_or t (i + 1) 0) (get_or t (i + 2) 0) (get_or t (i + 3) 0)

abbrev pub settings_at : List ℕ → ℕ → Settings
settings_at t i = record { high = get_or t i 0; low = get_or t (i + 1) 0; configuration = get_or t (i + 2) 0 }

abbrev pub truth_at : List ℕ → ℕ → Bool
truth_at t i = eqb (get_or t i 0) 1

abbrev pub reading_at : List ℕ → ℕ → Reading
reading_at t i = reading_from (get_or t i 0) (get_or t (i + 1) 0) (get_or t (i + 2) 0)

abbrev pub page_in_bytes : List ℕ → ℕ → Page
page_in_bytes t i = record {
  taken = truth_at t i;
  reading = reading_at t (i + 1);
  high = get_or t (i + 4) 0;
  low = get_or t (i + 5) 0;
}

unfoldable pub fields_of : List ℕ → Device
fields_of t = record {
  code = code_from_bytes (eight_at t 0);
  scratchpad = eight_at t 8;
  stage = stage_of (case_at t 16);
  activity = activity_of (case_at t 20);
  eeprom = settings_at t 24;
  power = power_of (get_or t 27 0);
  alarm = truth_at t 28;
  page = page_in_bytes t 29;
  pins = get_or t 35 0;
}
