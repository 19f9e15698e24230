-- A record as its parts are laid, and how it comes back from its bytes.
--     packed-laid        the bytes of a record are those of its parts, laid over zeros
--     fields_back        a record of the types is read from the bytes that it packs to
--     packed-one         no two records have the same bytes
--     fields-in-types    what is read from bytes is a record of the types
use Rattle.std.specs.Prelude.{ℕ, ◌<◌, ◌≡◌, refl, List, [], ◌∷◌, ◌++◌, length, get_or, replicate}
use Rattle.std.proofs.Common.{sym, ap, ◌∙◌}
use Rattle.basic_laws.specs.Laid.{laid}
use Rattle.device.specs.declared.Device.{Device}
use Rattle.packed_bench.specs.Bytes.{bytes_low_first, code_bytes}
use Rattle.packed_bench.specs.BytesLaws.{code-back, code_below, eight-whole}
use Rattle.packed_bench.specs.Parts.{truth_byte, power_byte, stage_case, activity_case}
use Rattle.packed_bench.specs.PartsLaws.{truth-back, power-back, reading-back, reading-in, stage-back}
use Rattle.packed_bench.specs.PartsLaws.{activity-back}
use Rattle.packed_bench.specs.Packed.{case_bytes, settings_bytes, page_bytes, packed_device, fields_of}
use Rattle.packed_bench.specs.Types.{InTypes}

pub packed-length : (d : Device) → length (packed_device d) ≡ 48
unfolding packed_device bytes_low_first
packed-length d = refl

-- parts of eight bytes, laid one after another over zeros; the last begins where the zeros of the one before it do
pub packed-laid : (d : Device) → length d.scratchpad ≡ 8 →
    let coded = laid (replicate 48 0) 0 (code_bytes d.code) in
    let padded = laid coded 8 d.scratchpad in
    let staged = laid padded 16 (case_bytes (stage_case d.stage) ++ case_bytes (activity_case d.activity)) in
    let kept = laid staged 24 (settings_bytes d.eeprom
    ++ (power_byte d.power ∷ truth_byte d.alarm ∷ 0 ∷ 0 ∷ 0 ∷ [])) in
    laid kept 29 (page_bytes d.page ++ (d.pins ∷ 0 ∷ [])) ≡ packed_device d
unfolding laid packed_device bytes_low_first
packed-laid d whole = rw (← eight-whole d.scratchpad whole)

pub fields_back : (d : Device) → InTypes d → fields_of (packed_device d) ≡ d
unfolding packed_device fields_of bytes_low_first
fields_back d f =
    simp (
      code-back 8 d.code f.code_fits,
      eight-whole d.scratchpad f.pad-length,
      stage-back d.stage,
      activity-back d.activity,
      power-back d.power,
      truth-back d.alarm,
      truth-back d.page.taken,
      reading-back d.page.reading f.reading-fits,
    )

pub packed-one : (d e : Device) → InTypes d → InTypes e → packed_device d ≡ packed_device e → d ≡ e
packed-one d e f g h = sym (fields_back d f) ∙ ap fields_of h ∙ fields_back e g

pub fields-in-types : (t : List ℕ) → ((i : ℕ) → get_or t i 0 < 256) → InTypes (fields_of t)
unfolding fields_of
fields-in-types t h = record {
  code_fits = code_below _ _ _ _ _ _ _ _ (h 0) (h 1) (h 2) (h 3) (h 4) (h 5) (h 6) (h 7);
  pad-length = refl;
  reading-fits = reading-in (get_or t 30 0) (get_or t 31 0) (get_or t 32 0) (h 31) (h 32);
}
