-- Nothing that can happen to a device takes from it what `Sound` says: joining, power, a reset, a slot, the end of a
-- conversion and of a copy.
use Rattle.std.specs.Prelude.{ℕ, ◌+◌, ◌<◌, ◌≡◌, refl, Bool, true, false, ◌&&◌, List, eqb, length, get_or, set}
use Rattle.std.proofs.Common.{◌∙◌, arith, eqb-true, lit<, lit≤, length-set, get_or-set_same, get_or-set_other}
use Rattle.std.proofs.lemmas.Bool.{eqb-false}
use Rattle.std.specs.Prelude.{if◌then◌else◌}
use Rattle.basic_laws.specs.ChoiceLaws.{and_left, and_right}
use Rattle.basic_laws.specs.Fold.{all}
use Rattle.commands.specs.Bytes.{shift_in}
use Rattle.family.specs.Configuration.{kept_configuration, as_kept}
use Rattle.family.specs.ConfigurationLaws.{kept-none, kept-as-kept}
use Rattle.family.specs.Families.{kept_pins}
use Rattle.family.specs.FamiliesLaws.{every-row}
use Rattle.family.specs.Layout.{high_limit_place, configuration_place}
use Rattle.family.specs.declared.Properties.{Properties}
use Rattle.rom.specs.Code.{family_of}
use Rattle.temperature.specs.Range.{in_range}
use Rattle.temperature.specs.declared.Reading.TheVariants.{InSixteenths}
use Rattle.temperature.specs.declared.Sixteenths.{Sixteenths}
use Rattle.scratchpad.specs.Stored.{raw_in, scratchpad_after}
use Rattle.scratchpad.specs.Judgement.{counts_believed}
use Rattle.scratchpad.proofs.StoredLaws.{raw-kept, believed-kept, after-length, after-other, after-raw, after-believed}
use Rattle.scratchpad.proofs.StoredLaws.{stored-range}
use Rattle.device.specs.declared.Activity.TheVariants.{Copying}
use Rattle.device.specs.declared.Device.{Device}
use Rattle.device.specs.declared.Joining.{Joining}
use Rattle.device.specs.declared.Power.{Power}
use Rattle.device.specs.declared.Settings.{Settings}
use Rattle.device.specs.declared.Stage.{Stage}
use Rattle.device.specs.Record.{with_stage, with_scratchpad, family_row, row_of}
use Rattle.device.specs.Settings.{settings_in, with_limits, with_settings, setting_byte}
use Rattle.device.specs.SettingsLaws.{settings-few}
use Rattle.device.specs.Hear.{hear_of}
use Rattle.device.specs.Power.{reset_of, powered_up, power_up, joined}
use Rattle.device.specs.Finish.{conversion_done, copy_done}
use Rattle.device.proofs.Outcomes.{hear-outcome}
use Rattle.device.specs.Sound.{copy_as_kept, PadSound, Sound}

-- ## The scratchpad

-- a byte of 4Eh
pub setting-sound : (row : Properties) (pad : List ℕ) (k byte : ℕ) → k < 3 → PadSound row pad
    → PadSound row (set pad (high_limit_place + k) (setting_byte row k byte))
setting-sound row pad k byte few p =
    record {
      eight = length-set pad _ _ ∙ p.eight;
      as-kept = by-test (eqb k 2) refl;
      in-range = rw (raw-kept row pad (2 + k) (setting_byte row k byte) (omega arith)) p.in-range;
      counts-believed = rw (believed-kept row pad (2 + k) (setting_byte row k byte) (omega arith)) p.counts-believed;
    }
  where
    by-test : (t : Bool) → eqb k 2 ≡ t → as_kept row
        (get_or (set pad (2 + k) (if t then kept_configuration row byte else byte)) 4 0) ≡ true
    by-test true e =
        let f : k ≡ 2 = eqb-true k 2 e in let l : 4 < length pad = rw p.eight (lit< tt) in
        rw (f, get_or-set_same pad 4 (kept_configuration row byte) 0 l) (kept-as-kept row byte)
    by-test false e =
        let f = eqb-false k 2 e in
        rw (get_or-set_other pad (2 + k) 4 byte 0 (λ g. f (omega arith))) p.as-kept

-- the settings of EEPROM over a scratchpad, whatever its configuration was
pub settings-sound : (row : Properties) (pad : List ℕ) (s : Settings) → length pad ≡ 8 → in_range (raw_in row pad) ≡ true
    → counts_believed row pad ≡ true → PadSound row (with_settings row pad s)
unfolding with_settings
settings-sound row pad s l r c = by-test row.configurable refl
  where
    limits-kept : raw_in row (with_limits pad s) ≡ raw_in row pad
    limits-kept = raw-kept row (set pad 2 s.high) 3 s.low (lit≤ tt) ∙ raw-kept row pad 2 s.high (lit≤ tt)

    limits-believed : counts_believed row (with_limits pad s) ≡ counts_believed row pad
    limits-believed = believed-kept row (set pad 2 s.high) 3 s.low (lit< tt)
        ∙ believed-kept row pad 2 s.high (lit< tt)

    limits-length : length (with_limits pad s) ≡ 8
    limits-length = simp length-set l

    by-test : (t : Bool) → row.configurable ≡ t
        → PadSound row (if t then set (with_limits pad s) configuration_place (kept_configuration row s.configuration)
        else with_limits pad s)
    by-test true e =
        let b : 4 < length (with_limits pad s) = rw limits-length (lit< tt) in
        let kept = kept_configuration row s.configuration in
        record {
          eight = length-set (with_limits pad s) _ _ ∙ limits-length;
          as-kept = rw (get_or-set_same (with_limits pad s) 4 kept 0 b) (kept-as-kept row s.configuration);
          in-range = rw (raw-kept row (with_limits pad s) 4 kept (lit≤ tt), limits-kept) r;
          counts-believed = rw (believed-kept row (with_limits pad s) 4 kept (lit< tt), limits-believed) c;
        }
    by-test false e = record {
      eight = limits-length;
      as-kept = kept-none row (get_or (with_limits pad s) 4 0) e;
      in-range = rw limits-kept r;
      counts-believed = rw limits-believed c;
    }

-- the end of a conversion
pub after-sound : (row : Properties) (count : Sixteenths) (pad : List ℕ) → in_range (InSixteenths count) ≡ true
    → PadSound row pad
    → PadSound row (scratchpad_after row count pad)
after-sound row count pad h p = record {
  eight = after-length row count pad ∙ p.eight;
  as-kept = rw (after-other row count pad 4 (lit≤ tt) (lit< tt)) p.as-kept;
  in-range = rw (after-raw row count pad h p.eight) (stored-range row count pad h);
  counts-believed = after-believed row count pad p.eight;
}

-- the scratchpad that power finds: of every row of the table, eight bytes, a reading in range and counts to believe
starts_sound : Properties → Bool
starts_sound row = eqb (length row.initial) 8
    && (in_range (raw_in row row.initial) && counts_believed row row.initial)

initial-sound : (code pins : ℕ) (s : Settings)
    → PadSound (row_of code pins) (with_settings (row_of code pins) (row_of code pins).initial s)
unfolding row_of all starts_sound
initial-sound code pins s =
    let row = row_of code pins in
    let range = in_range (raw_in row row.initial) in
    let counts = counts_believed row row.initial in
    let test : starts_sound row ≡ true = every-row starts_sound refl (family_of code) in
    let eight = and_left (eqb (length row.initial) 8) (range && counts) test in
    let rest = and_right (eqb (length row.initial) 8) (range && counts) test in
    settings-sound row row.initial s (eqb-true _ 8 eight) (and_left range counts rest) (and_right range counts rest)

-- ## The device

settings-as-kept : (row : Properties) (pad : List ℕ) → PadSound row pad
    → as_kept row (settings_in row pad).configuration ≡ true
unfolding settings_in
settings-as-kept row pad p = by-test row.configurable refl p.as-kept
  where
    by-test : (t : Bool) → row.configurable ≡ t → as_kept row (get_or pad configuration_place 0) ≡ true
        → as_kept row (if t then get_or pad configuration_place 0 else 0) ≡ true
    by-test true e h = h
    by-test false e h = kept-none row 0 e

powered-sound : (code : ℕ) (power : Power) (pins : ℕ) (s : Settings)
    → as_kept (row_of code pins) s.configuration ≡ true → Sound (powered_up code power pins s)
powered-sound code power pins s h = record {
  pad-sound = initial-sound code pins s;
  eeprom-as-kept = h;
  copy-as-kept = refl;
  flag_is = refl;
}

pub joined-sound : (new : Joining) → Sound (joined new)
unfolding joined
joined-sound new =
    let pins = kept_pins (family_row new.code) new.pins in
    powered-sound new.code new.power pins _ (kept-as-kept (row_of new.code pins) new.configuration)

pub power-up-sound : (d : Device) → Sound d → Sound (power_up d)
unfolding power_up
power-up-sound d s = powered-sound d.code d.power d.pins d.eeprom s.eeprom-as-kept

pub reset-sound : (d : Device) → Sound d → Sound (reset_of d)
reset-sound d s = record {
  pad-sound = s.pad-sound;
  eeprom-as-kept = s.eeprom-as-kept;
  copy-as-kept = s.copy-as-kept;
  flag_is = s.flag_is;
}

pub hear-sound : (d : Device) (l : Bool) → Sound d → Sound (hear_of d l)
hear-sound d l s =
    hear-outcome d l Sound
    (record {
      moved = λ t. record {
        pad-sound = p;
        eeprom-as-kept = s.eeprom-as-kept;
        copy-as-kept = s.copy-as-kept;
        flag_is = s.flag_is;
      };
      converts = λ t e i. record {
        pad-sound = p;
        eeprom-as-kept = s.eeprom-as-kept;
        copy-as-kept = refl;
        flag_is = s.flag_is;
      };
      copies = λ t e i. record {
        pad-sound = p;
        eeprom-as-kept = s.eeprom-as-kept;
        copy-as-kept = settings-as-kept row d.scratchpad p;
        flag_is = s.flag_is;
      };
      recalls = λ t e i. with-pad (settings-sound row d.scratchpad d.eeprom p.eight p.in-range
          p.counts-believed);
      setting-stored = λ k t e i n. with-pad (setting-sound row d.scratchpad k (shift_in t l)
          (omega (arith, settings-few row)) p);
    })
  where
    row : Properties
    row = row_of d.code d.pins

    p : PadSound (row_of d.code d.pins) d.scratchpad
    p = s.pad-sound

    with-pad : {pad : List ℕ} {t : Stage} → PadSound (row_of d.code d.pins) pad
        → Sound (with_stage (with_scratchpad d pad) t)
    with-pad q = record {
      pad-sound = q;
      eeprom-as-kept = s.eeprom-as-kept;
      copy-as-kept = s.copy-as-kept;
      flag_is = s.flag_is;
    }

pub conversion-sound : (d : Device) (count : Sixteenths) → in_range (InSixteenths count) ≡ true → Sound d
    → Sound (conversion_done d count)
unfolding conversion_done
conversion-sound d count h s =
    record {
      pad-sound = after-sound (row_of d.code d.pins) count d.scratchpad h s.pad-sound;
      eeprom-as-kept = s.eeprom-as-kept;
      copy-as-kept = refl;
      flag_is = refl;
    }

pub copy-sound : (d : Device) (latched : Settings) → d.activity ≡ Copying latched → Sound d
    → Sound (copy_done d latched)
unfolding copy_done
copy-sound d latched e s =
    let f : copy_as_kept (row_of d.code d.pins) (Copying latched) ≡ true = rw e at s.copy-as-kept in
    record { pad-sound = s.pad-sound; eeprom-as-kept = f; copy-as-kept = refl; flag_is = s.flag_is }
