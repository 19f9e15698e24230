-- A device that calls reach holds bytes wherever it keeps a byte: in its scratchpad, in the limits of its EEPROM and of
-- a copy under way, and in the part of a byte of 4Eh that it has taken. And byte 7 of its scratchpad is what it was at
-- power-up, which is never 0: so no scratchpad is all zeros.
--     StoredBytes d        its part on what is stored, whatever the stage
--     Bytewise d           the claim
--     Readable b           the bench is sound, its codes have 64 bits, and each device is bytewise: law
--                          `readable-after`, after every history
use Rattle.std.specs.Prelude.{ℕ, zero, suc, ◌+◌, ◌/◌, ◌%◌, ◌<◌, ◌≤◌, Bool, true, false, not, ◌&&◌, ◌||◌, List, [], ◌∷◌, ◌≡◌, refl, eqb, ltb, ℤ, pos, negsuc, set}
use Rattle.std.specs.Bool.{beq}
use Rattle.std.proofs.Common.{◌∙◌, arith, ltb-true, eqb-true, lit<, lit≤}
use Rattle.std.specs.Int.Bits.{bit_and}
use Rattle.std.proofs.lemmas.Nat.{and_le_r}
use Rattle.std.proofs.Math.ListN.{get_or}
use Rattle.std.proofs.Math.Seq.{get_or-set_other}
use Rattle.std.specs.Int.Signed.{mag}
use Rattle.std.specs.Prelude.{if◌then◌else◌}
use Rattle.basic_laws.specs.ChoiceLaws.{and_left, and_right}
use Rattle.basic_laws.specs.Each.{Each}
use Rattle.basic_laws.specs.Fold.{all}
use Rattle.basic_laws.specs.Bits.{bit_at}
use Rattle.basic_laws.specs.Bytes.{Bytes}
use Rattle.basic_laws.specs.BytesLaws.{bytes-set}
use Rattle.commands.specs.Bytes.{shift_in}
use Rattle.commands.specs.BytesLaws.{shifted-cases}
use Rattle.commands.specs.Commands.{read_rom, match_rom, skip_rom, search_rom, alarm_search, convert, write_scratchpad}
use Rattle.commands.specs.Commands.{read_scratchpad, copy_scratchpad, recall_eeprom, read_power}
use Rattle.family.specs.Configuration.{stored_form, kept_configuration}
use Rattle.family.specs.Families.{kept_pins}
use Rattle.family.specs.FamiliesLaws.{every-row}
use Rattle.family.specs.declared.Properties.{Properties}
use Rattle.family.specs.declared.Unit.{Unit as Measure}
use Rattle.family.specs.declared.Unit.TheVariants.{Sixteenths as inSixteenths, HalfDegrees as inHalfDegrees}
use Rattle.rom.specs.Code.{family_of}
use Rattle.basic_laws.specs.Complement.{bits16}
use Rattle.temperature.specs.Range.{in_range}
use Rattle.temperature.specs.RangeLaws.{between-size}
use Rattle.temperature.specs.Register.{count_of}
use Rattle.temperature.specs.declared.Reading.{Reading}
use Rattle.temperature.specs.declared.Reading.TheVariants.{InSixteenths, InHalves}
use Rattle.temperature.specs.declared.Sixteenths.{Sixteenths}
use Rattle.scratchpad.specs.Fine.{counts_per_degree, remaining_of}
use Rattle.scratchpad.specs.FineLaws.{remaining-bounds}
use Rattle.scratchpad.specs.Stored.{stored_reading, with_counts, scratchpad_after}
use Rattle.scratchpad.proofs.StoredLaws.{after-seventh, stored-range}
use Rattle.search_laws.specs.Numbers.{Below}
use Rattle.device.specs.Finish.{conversion_done, copy_done}
use Rattle.device.specs.Hear.{after_bit, rom_command, hear_rom, idle_command, function_command, hear_function, store_setting}
use Rattle.device.specs.Hear.{hear_settings, hear_at, hear_of}
use Rattle.device.proofs.Outcomes.{hear-outcome}
use Rattle.device.specs.Power.{reset_of, powered_up, power_up, joined}
use Rattle.device.specs.Record.{with_stage, with_scratchpad, family_row, row_of, busy}
use Rattle.device.specs.Settings.{settings_in, with_limits, with_settings, settings_count, setting_byte}
use Rattle.device.specs.SettingsLaws.{settings-few}
use Rattle.device.specs.declared.Activity.{Activity}
use Rattle.device.specs.declared.Activity.TheVariants.{Idle, Converting, Copying}
use Rattle.device.specs.declared.Device.{Device}
use Rattle.device.specs.declared.Joining.{Joining}
use Rattle.device.specs.declared.Phase.TheVariants.{SendBit, SendComplement, TakeBit}
use Rattle.device.specs.declared.Power.{Power}
use Rattle.device.specs.declared.Settings.{Settings}
use Rattle.device.specs.declared.Stage.{Stage}
use Rattle.device.specs.declared.Stage.TheVariants.{AwaitRom, SendRom, Match, Search, AwaitFunction, TakeSettings}
use Rattle.device.specs.declared.Stage.TheVariants.{SendScratchpad, SendStatus, SendPower, Quiet}
use Rattle.bench.specs.Bench.{live}
use Rattle.bench.specs.Slot.{line_bit, slotted, reset_done}
use Rattle.bench.specs.declared.Bench.{Bench}
use Rattle.bench.specs.Everywhere.{Invariant}
use Rattle.bench.proofs.Everywhere.{heard-each, restarted-each}
use Rattle.bench.proofs.Laws.{slot_cases, reset-cases}
use Rattle.bench.specs.Sound.{codes_of, BenchSound}
use Rattle.bench.proofs.SoundLaws.{heard-codes, restarted-codes, slotted-sound, reset-done-sound}
use Rattle.history_laws.proofs.Corollaries.{bench-is-sound}
use Rattle.history_laws.specs.History.{Call, add, Typed, after}
use Rattle.history_laws.proofs.Reached.{reached-after}
use Rattle.access_laws.specs.Lasting.{lasts_after}

abbrev pub LimitBytes : Settings → Type 0
LimitBytes s = (s.high < 256) × (s.low < 256)

abbrev pub CopyBytes : Activity → Type 0
CopyBytes Idle = Unit
CopyBytes Converting = Unit
CopyBytes (Copying s) = LimitBytes s

abbrev pub TakenByte : Stage → Type 0
TakenByte (AwaitRom s n) = Unit
TakenByte (SendRom i) = Unit
TakenByte (Match i) = Unit
TakenByte (Search i p) = Unit
TakenByte (AwaitFunction s n) = Unit
TakenByte (TakeSettings k s n) = s < 256
TakenByte (SendScratchpad k j) = Unit
TakenByte SendStatus = Unit
TakenByte SendPower = Unit
TakenByte Quiet = Unit

pub record StoredBytes (d : Device) : Type 0 where
  pub pad-bytes : Bytes d.scratchpad
  pub seventh : get_or d.scratchpad 7 0 ≡ get_or (row_of d.code d.pins).initial 7 0
  pub eeprom-bytes : LimitBytes d.eeprom
  pub copy-bytes : CopyBytes d.activity

pub record Bytewise (d : Device) : Type 0 where
  pub stored : StoredBytes d
  pub taken : TakenByte d.stage

-- ## Bytes

shift-byte : (s : ℕ) (l : Bool) → s < 256 → shift_in s l < 256
shift-byte s true h = omega arith
shift-byte s false h = omega arith

kept_byte : (row : Properties) (byte : ℕ) → kept_configuration row byte < 256
kept_byte row byte = by-test row.configurable
  where
    form : stored_form byte row.nibble < 256
    form = let h : bit_and byte 0x60 ≤ 0x60 = and_le_r byte 0x60 in omega arith

    by-test : (t : Bool) → (if t then stored_form byte row.nibble else 0) < 256
    by-test true = form
    by-test false = lit< tt

setting-byte : (row : Properties) (k byte : ℕ) → byte < 256 → setting_byte row k byte < 256
setting-byte row k byte h = by-test (eqb k 2)
  where
    by-test : (t : Bool) → (if t then kept_configuration row byte else byte) < 256
    by-test true = kept_byte row byte
    by-test false = h

-- the settings of EEPROM over a scratchpad
module _ (row : Properties) (pad : List ℕ) (s : Settings) where
  settings-bytes : Bytes pad → LimitBytes s → Bytes (with_settings row pad s)
  unfolding with_settings
  settings-bytes b h = by-test row.configurable
    where
      limits : Bytes (with_limits pad s)
      limits = bytes-set (set pad 2 s.high) 3 s.low (bytes-set pad 2 s.high b h.0) h.1

      by-test : (t : Bool) → Bytes (if t then set (with_limits pad s) 4 (kept_configuration row s.configuration)
          else with_limits pad s)
      by-test true = bytes-set (with_limits pad s) 4 _ limits (kept_byte row s.configuration)
      by-test false = limits

  settings-seventh : get_or (with_settings row pad s) 7 0 ≡ get_or pad 7 0
  unfolding with_settings
  settings-seventh = by-test row.configurable
    where
      limits : get_or (with_limits pad s) 7 0 ≡ get_or pad 7 0
      limits = get_or-set_other (set pad 2 s.high) 3 7 s.low 0 (λ e. omega arith)
          ∙ get_or-set_other pad 2 7 s.high 0 (λ e. omega arith)

      by-test : (t : Bool) → get_or (if t then set (with_limits pad s) 4 (kept_configuration row s.configuration)
          else with_limits pad s) 7 0 ≡ get_or pad 7 0
      by-test true = get_or-set_other (with_limits pad s) 4 7 _ 0 (λ e. omega arith) ∙ limits
      by-test false = limits

-- the sixteen bits of a reading in range
sixteen : (z : ℤ) → mag z ≤ 2000 → bits16 z < 65536
sixteen (pos n) h = omega arith
sixteen (negsuc n) h = omega arith

reading-bits : (r : Reading) → in_range r ≡ true → bits16 (count_of r) < 65536
reading-bits (InSixteenths c) h = sixteen c.0 (between-size 879 2000 2000 c.0 (lit≤ tt) (lit≤ tt) h)
reading-bits (InHalves c) h = sixteen c.0 (between-size 109 250 2000 c.0 (lit≤ tt) (lit≤ tt) h)

counts-bytes : (unit : Measure) (count : Sixteenths) (pad : List ℕ) → Bytes pad → Bytes (with_counts unit count pad)
counts-bytes inSixteenths count pad b = b
counts-bytes inHalfDegrees count pad b =
    let l : remaining_of count < 256 = omega (arith, (remaining-bounds count).1) in
    bytes-set (set pad 6 (remaining_of count)) 7 counts_per_degree (bytes-set pad 6 (remaining_of count) b l) (lit< tt)

after-bytes : (row : Properties) (count : Sixteenths) (pad : List ℕ) → in_range (InSixteenths count) ≡ true → Bytes pad
    → Bytes (scratchpad_after row count pad)
unfolding scratchpad_after
after-bytes row count pad h b =
    let n = bits16 (count_of (stored_reading row count pad)) in
    let l : n < 65536 = reading-bits (stored_reading row count pad) (stored-range row count pad h) in
    let low : n % 256 < 256 = omega arith in
    let high : n / 256 < 256 = omega arith in
    counts-bytes row.unit count _ (bytes-set (set pad 0 (n % 256)) 1 (n / 256)
    (bytes-set pad 0 (n % 256) b low) high)

-- of every row that counts half degrees byte 7 is at power-up what a conversion leaves there
in_halves : Measure → Bool
in_halves inSixteenths = false
in_halves inHalfDegrees = true

seventh-left : (code pins : ℕ) → (row_of code pins).unit ≡ inHalfDegrees
    → counts_per_degree ≡ get_or (row_of code pins).initial 7 0
unfolding row_of all in_halves
seventh-left code pins unit =
    let row = row_of code pins in
    let test : (not (in_halves row.unit) || eqb counts_per_degree (get_or row.initial 7 0)) ≡ true
    = every-row (λ r. not (in_halves r.unit) || eqb counts_per_degree (get_or r.initial 7 0)) refl (family_of code) in
    eqb-true counts_per_degree (get_or row.initial 7 0) (rw unit at test)

-- the scratchpad of a family at power-up
all-bytes : (l : List ℕ) → all (λ x. ltb x 256) l ≡ true → Bytes l
unfolding all
all-bytes [] h k = lit< tt
all-bytes (x ∷ l) h zero = ltb-true x 256 (and_left (ltb x 256) (all (λ y. ltb y 256) l) h)
all-bytes (x ∷ l) h (suc k) = all-bytes l (and_right (ltb x 256) (all (λ y. ltb y 256) l) h) k

initial-bytes : (code pins : ℕ) → Bytes (row_of code pins).initial
unfolding row_of all
initial-bytes code pins = all-bytes (row_of code pins).initial
    (every-row (λ row. all (λ x. ltb x 256) row.initial) refl (family_of code))

-- ## Power, and the ends of a conversion and of a copy

-- the stage is nothing of it
restaged : (d : Device) (t : Stage) → StoredBytes d → StoredBytes (with_stage d t)
restaged d t s = record {
  pad-bytes = s.pad-bytes;
  seventh = s.seventh;
  eeprom-bytes = s.eeprom-bytes;
  copy-bytes = s.copy-bytes;
}

powered-bytewise : (code : ℕ) (power : Power) (pins : ℕ) (s : Settings) → LimitBytes s
    → Bytewise (powered_up code power pins s)
powered-bytewise code power pins s h = record {
  stored = record {
    pad-bytes = settings-bytes (row_of code pins) (row_of code pins).initial s (initial-bytes code pins) h;
    seventh = settings-seventh (row_of code pins) (row_of code pins).initial s;
    eeprom-bytes = h;
    copy-bytes = tt;
  };
  taken = tt;
}

joined-bytewise : (new : Joining) → Typed (add new) → Bytewise (joined new)
unfolding joined
joined-bytewise new t = powered-bytewise new.code new.power (kept_pins (family_row new.code) new.pins)
    _ (t.1, t.2)

power-up-bytewise : (d : Device) → Bytewise d → Bytewise (power_up d)
unfolding power_up
power-up-bytewise d b = powered-bytewise d.code d.power d.pins d.eeprom b.stored.eeprom-bytes

conversion-bytewise : (d : Device) (n : Sixteenths) → in_range (InSixteenths n) ≡ true → Bytewise d
    → Bytewise (conversion_done d n)
unfolding conversion_done
conversion-bytewise d n h b = record {
  stored = record {
    pad-bytes = after-bytes (row_of d.code d.pins) n d.scratchpad h b.stored.pad-bytes;
    seventh = after-seventh (row_of d.code d.pins) n d.scratchpad (λ v. v
        ≡ get_or (row_of d.code d.pins).initial 7 0) (seventh-left d.code d.pins) b.stored.seventh;
    eeprom-bytes = b.stored.eeprom-bytes;
    copy-bytes = tt;
  };
  taken = b.taken;
}

copy-bytewise : (d : Device) (s : Settings) → d.activity ≡ Copying s → Bytewise d → Bytewise (copy_done d s)
unfolding copy_done
copy-bytewise d s e b =
    let held : CopyBytes (Copying s) = rw e at b.stored.copy-bytes in
    record {
      stored = record {
        pad-bytes = b.stored.pad-bytes;
        seventh = b.stored.seventh;
        eeprom-bytes = held;
        copy-bytes = tt;
      };
      taken = b.taken;
    }

reset-bytewise : (d : Device) → Bytewise d → Bytewise (reset_of d)
reset-bytewise d b = record { stored = restaged d _ b.stored; taken = tt }

-- ## A slot: what is stored

hear-stored : (d : Device) (l : Bool) → Bytewise d → StoredBytes (hear_of d l)
unfolding settings_in
hear-stored d l b =
    hear-outcome d l StoredBytes
    (record {
      moved = λ t. restaged d t s;
      converts = λ t e i. record {
        pad-bytes = s.pad-bytes;
        seventh = s.seventh;
        eeprom-bytes = s.eeprom-bytes;
        copy-bytes = tt;
      };
      copies = λ t e i. record {
        pad-bytes = s.pad-bytes;
        seventh = s.seventh;
        eeprom-bytes = s.eeprom-bytes;
        copy-bytes = latched;
      };
      recalls = λ t e i.
          record {
            pad-bytes = settings-bytes row d.scratchpad d.eeprom s.pad-bytes s.eeprom-bytes;
            seventh = settings-seventh row d.scratchpad d.eeprom ∙ s.seventh;
            eeprom-bytes = s.eeprom-bytes;
            copy-bytes = s.copy-bytes;
          };
      setting-stored = λ k t e h n. set-one k t n (rw e at b.taken) h;
    })
  where
    s : StoredBytes d
    s = b.stored

    row : Properties
    row = row_of d.code d.pins

    latched : LimitBytes (settings_in (row_of d.code d.pins) d.scratchpad)
    latched = (b.stored.pad-bytes 2, b.stored.pad-bytes 3)

    set-one : (k t : ℕ) (n : Stage) → t < 256 → k < settings_count (row_of d.code d.pins)
        → StoredBytes (with_stage (with_scratchpad d
        (set d.scratchpad (2 + k) (setting_byte (row_of d.code d.pins) k (shift_in t l)))) n)
    set-one k t n h few =
        let third : k < 3 = omega (arith, settings-few (row_of d.code d.pins)) in
        let v = setting_byte (row_of d.code d.pins) k (shift_in t l) in
        record {
          pad-bytes = bytes-set d.scratchpad (2 + k) v b.stored.pad-bytes
              (setting-byte (row_of d.code d.pins) k (shift_in t l) (shift-byte t l h));
          seventh = get_or-set_other d.scratchpad (2 + k) 7 v 0 (λ e. omega arith) ∙ b.stored.seventh;
          eeprom-bytes = b.stored.eeprom-bytes;
          copy-bytes = b.stored.copy-bytes;
        }

-- ## A slot: what is taken

taken-if : (t : Bool) (s u : Stage) → TakenByte s → TakenByte u → TakenByte (if t then s else u)
taken-if true s u h k = h
taken-if false s u h k = k

taken_of : (t : Bool) (d e : Device) → TakenByte d.stage → TakenByte e.stage
    → TakenByte (if t then d else e).stage
taken_of true d e h k = h
taken_of false d e h k = k

after-bit : (at : ℕ → Stage) (i : ℕ) → TakenByte (at (i + 1)) → TakenByte (after_bit at i)
after-bit at i h = taken-if (ltb i 63) _ _ h (taken-if (eqb i 63) _ _ tt tt)

rom-taken : (alarm : Bool) (c : ℕ) → TakenByte (rom_command alarm c)
rom-taken alarm c =
    taken-if (eqb c read_rom) _ _ tt
    (taken-if (eqb c match_rom) _ _ tt (taken-if (eqb c skip_rom) _ _ tt
    (taken-if (eqb c search_rom) _ _ tt (taken-if (eqb c alarm_search) _ _ (taken-if alarm _ _ tt tt) tt))))

function-taken : (d : Device) (c : ℕ) → TakenByte (function_command d c).stage
unfolding function_command idle_command
function-taken d c =
    taken_of (eqb c read_scratchpad) _ _ tt
    (taken_of (eqb c read_power) _ _ tt
    (taken_of (busy d) _ _ tt
    (taken_of (eqb c convert) _ _ tt
    (taken_of (eqb c write_scratchpad) _ _ (lit< tt)
    (taken_of (eqb c copy_scratchpad) _ _ tt (taken_of (eqb c recall_eeprom) _ _ tt tt))))))

store-taken : (d : Device) (k byte : ℕ) → TakenByte (store_setting d k byte).stage
unfolding store_setting
store-taken d k byte =
    taken_of (ltb k (settings_count (row_of d.code d.pins)))
    _ _ (taken-if (ltb (k + 1) (settings_count (row_of d.code d.pins))) (TakeSettings (k + 1) 0 0) Quiet
    (lit< tt) tt) tt

hear-taken : (d : Device) (l : Bool) → TakenByte d.stage → TakenByte (hear_of d l).stage
unfolding hear_of
hear-taken d l b = at_stage d.stage b
  where
    at_stage : (s : Stage) → TakenByte s → TakenByte (hear_at d l s).stage
    at_stage (AwaitRom s n) t = shifted-cases s n l (λ x. TakenByte (hear_rom d x).stage) tt
        (λ z. rom-taken d.alarm (shift_in s l)) tt
    at_stage (SendRom i) t = after-bit SendRom i tt
    at_stage (Match i) t = taken-if (beq (bit_at d.code i) l) _ _ (after-bit Match i tt) tt
    at_stage (Search i SendBit) t = tt
    at_stage (Search i SendComplement) t = tt
    at_stage (Search i TakeBit) t = taken-if (beq (bit_at d.code i) l)
        _ _ (after-bit (λ j. Search j SendBit) i tt) tt
    at_stage (AwaitFunction s n) t = shifted-cases s n l (λ x. TakenByte (hear_function d x).stage) tt
        (λ z. function-taken d (shift_in s l)) tt
    at_stage (TakeSettings k s n) t =
        shifted-cases s n l (λ x. TakenByte (hear_settings d k x).stage) (shift-byte s l t)
        (λ z. store-taken d k (shift_in s l)) tt
    at_stage (SendScratchpad k j) t =
        taken-if (not (ltb k 9 && ltb j 8)) _ _ tt (taken-if (ltb j 7) _ _ tt (taken-if (ltb k 8) _ _ tt tt))
    at_stage SendStatus t = b
    at_stage SendPower t = b
    at_stage Quiet t = b

-- ## After every history

bytewise-lasts : Invariant Bytewise
bytewise-lasts = record {
  by-slot = λ d l b. record { stored = hear-stored d l b; taken = hear-taken d l b.taken };
  by-reset = reset-bytewise;
  by-power = power-up-bytewise;
  by-conversion = conversion-bytewise;
  by_copy = copy-bytewise;
}

-- what the answer to a read goes by, of a bench
pub record Readable (b : Bench) : Type 0 where
  pub sound : BenchSound b
  pub codes-fit : Below 64 (codes_of b)
  pub bytewise : Each Bytewise (live b)

pub readable-after : (h : List Call) → Each Typed h → Readable (after h)
readable-after h t =
    let m = (reached-after h t).marked in
    record {
      sound = bench-is-sound h t;
      codes-fit = rw m.codes-are m.codes-fit;
      bytewise = lasts_after Bytewise bytewise-lasts (λ new u p. joined-bytewise new u) h t;
    }

-- every slot and every reset keeps it, and so do calls that make nothing else
pub readable-slot : (m : Bool) (b : Bench) → Readable b → Readable (slotted b m).bench
readable-slot m b r = record {
  sound = slotted-sound b m r.sound;
  codes-fit = slot_cases b m (λ s. Below 64 (codes_of s.bench)) (λ f. rw (heard-codes b (line_bit b m)) r.codes-fit)
      (λ f. r.codes-fit);
  bytewise = slot_cases b m (λ s. Each Bytewise (live s.bench))
      (λ f. heard-each Bytewise bytewise-lasts b r.bytewise (line_bit b m)) (λ f. r.bytewise);
}

pub readable-reset : (b : Bench) → Readable b → Readable (reset_done b).bench
readable-reset b r = record {
  sound = reset-done-sound b r.sound;
  codes-fit = reset-cases b (λ s. Below 64 (codes_of s.bench)) (λ f. rw (restarted-codes b) r.codes-fit)
      (λ f. r.codes-fit);
  bytewise = reset-cases b (λ s. Each Bytewise (live s.bench))
      (λ f. restarted-each Bytewise bytewise-lasts b r.bytewise) (λ f. r.bytewise);
}
