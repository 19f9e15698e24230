-- What a write at a code makes of each device, before its read-back: 55h, the code and 4Eh leave the device with the
-- code about to take the settings, and all others quiet; a busy one is quiet too. Each
-- whole byte is stored as its last bit arrives, so that after the last the scratchpad has these settings, and the
-- device is quiet.
--     settled_by code s d     d after a write of s at the code: quiet, and with these settings where it has the code and
--                            is not busy
--     write-picks            so a reset, 55h, the code, 4Eh and the settings leave every device
use Rattle.std.specs.Prelude.{ℕ, ◌^◌, ◌<◌, Bool, List, [], ◌∷◌, ◌++◌, ◌≡◌, refl, eqb, ltb, set}
use Rattle.std.proofs.Math.Bool.{true, false}
use Rattle.std.proofs.Common.{ap, subst, ◌∙◌, eqb-true}
use Rattle.std.specs.Prelude.{if◌then◌else◌}
use Rattle.basic_laws.specs.Bits.{bits_of, number_of}
use Rattle.basic_laws.specs.BitsLaws.{number-bits}
use Rattle.commands.specs.BytesLaws.{eight-in}
use Rattle.commands.specs.Commands.{write_scratchpad}
use Rattle.device.specs.Hear.{await_function, function_command, idle_command, store_setting, hear_of}
use Rattle.device.specs.Power.{reset_of}
use Rattle.device.specs.Record.{with_stage, with_scratchpad, family_row, row_of, busy, holds_wire}
use Rattle.device.specs.Settings.{with_settings, settings_count}
use Rattle.device.specs.SettingsLaws.{high-stored, low-stored, configuration-stored}
use Rattle.device.specs.declared.Device.{Device}
use Rattle.device.specs.declared.Settings.{Settings}
use Rattle.device.specs.declared.Stage.TheVariants.{TakeSettings, Quiet}
use Rattle.history_laws.specs.History.{Byte}
use Rattle.access_laws.specs.Course.{Hears, hears-append, hears-then, quiet-hears}
use Rattle.access_laws.specs.Picked.{address-picks}
use Rattle.access_laws.specs.Unrefused.{address_bits, settings_bits, write_bits}
use Rattle.access_laws.specs.Written.{with_asked}

-- a busy device ignores 4Eh
abbrev pub pad_written : Device → Settings → List ℕ
pad_written d s = if busy d then d.scratchpad else with_asked d s

abbrev pub settled_by : ℕ → Settings → Device → Device
settled_by code s d = with_stage (with_scratchpad d (if eqb d.code code then pad_written d s else d.scratchpad)) Quiet

abbrev pub SettingBytes : Settings → Type 0
SettingBytes s = Byte s.high × Byte s.low × Byte s.configuration

-- ## One byte of 4Eh

wire-if : (t w : Bool) (d e : Device) → holds_wire d ≡ w → holds_wire e ≡ w → holds_wire (if t then d else e) ≡ w
wire-if true w d e h k = h
wire-if false w d e h k = k

store-wire : (d : Device) (k x : ℕ) → holds_wire (store_setting d k x) ≡ holds_wire d
unfolding store_setting
store-wire d k x = wire-if (ltb k (settings_count (row_of d.code d.pins))) _ _ _ refl refl

-- eight bits, which make the byte x
bits-taken : (d : Device) (k x : ℕ) (a b c e f g h i : Bool) → number_of (a ∷ b ∷ c ∷ e ∷ f ∷ g ∷ h ∷ i ∷ []) ≡ x
    → Hears (λ y. y ≡ store_setting d k x) (a ∷ b ∷ c ∷ e ∷ f ∷ g ∷ h ∷ i ∷ []) (with_stage d (TakeSettings k 0 0))
unfolding hear_of store_setting
bits-taken d k x a b c e f g h i makes =
    let last = ap (store_setting d k) (eight-in a b c e f g h i ∙ makes) in (
      refl,
      refl,
      (
        refl,
        refl,
        (
          refl,
          refl,
          (
            refl,
            refl,
            (refl, refl, (refl, refl, (refl, refl, (ap holds_wire last ∙ store-wire d k x, refl, last)))),
          ),
        ),
      ),
    )

byte-taken : (d : Device) (k x : ℕ) → x < 256
    → Hears (λ e. e ≡ store_setting d k x) (bits_of 8 x) (with_stage d (TakeSettings k 0 0))
unfolding bits_of
byte-taken d k x h = bits-taken d k x _ _ _ _ _ _ _ _ (number-bits 8 x h)

-- ## All of them

module _ (d : Device) (s : Settings) (bytes : SettingBytes s) where
  asked : Device
  asked = with_stage (with_scratchpad d (with_asked d s)) Quiet

  abbrev high_taken : Device
  high_taken = with_scratchpad d (set d.scratchpad 2 s.high)

  abbrev limits_taken : Device
  limits_taken = with_scratchpad d (set (set d.scratchpad 2 s.high) 3 s.low)

  last_taken : (t : Bool) → (row_of d.code d.pins).configurable ≡ t
      → Hears (λ e. e ≡ asked) (if t then bits_of 8 s.configuration else [])
      (with_stage limits_taken (if t then TakeSettings 2 0 0 else Quiet))
  unfolding with_settings asked
  last_taken true e =
      hears-then (λ f. f ≡ store_setting limits_taken 2 s.configuration) (λ f. f ≡ asked)
      (λ f q. q ∙ configuration-stored limits_taken s.configuration e ∙ rw e)
      (bits_of 8 s.configuration) (with_stage limits_taken (TakeSettings 2 0 0))
      (byte-taken limits_taken 2 s.configuration bytes.2)
  last_taken false e = rw e

  settings-taken : Hears (λ e. e ≡ asked) (settings_bits (row_of d.code d.pins) s)
      (with_stage d (TakeSettings 0 0 0))
  settings-taken =
      hears-append F (bits_of 8 s.high) (bits_of 8 s.low ++ rest) (with_stage d (TakeSettings 0 0 0))
      (hears-then (λ e. e ≡ store_setting d 0 s.high) (Hears F (bits_of 8 s.low ++ rest))
      (λ e q. rw (q, high-stored d s.high) low-taken)
      (bits_of 8 s.high) (with_stage d (TakeSettings 0 0 0)) (byte-taken d 0 s.high bytes.0))
    where
      F : Device → Type 0
      F e = e ≡ asked

      rest : List Bool
      rest = if (row_of d.code d.pins).configurable then bits_of 8 s.configuration else []

      low-taken : Hears (λ e. e ≡ asked)
          (bits_of 8 s.low ++ (if (row_of d.code d.pins).configurable then bits_of 8 s.configuration else []))
          (with_stage high_taken (TakeSettings 1 0 0))
      low-taken =
          hears-append F (bits_of 8 s.low) rest (with_stage high_taken (TakeSettings 1 0 0))
          (hears-then (λ e. e ≡ store_setting high_taken 1 s.low) (Hears F rest)
          (λ e q. rw (q, low-stored high_taken s.low) (last_taken (row_of d.code d.pins).configurable refl))
          (bits_of 8 s.low) (with_stage high_taken (TakeSettings 1 0 0)) (byte-taken high_taken 1 s.low bytes.1))

-- ## All of a write, up to its read-back

write-taken : (d : Device)
    → Hears (λ e. e ≡ with_stage d (if busy d then Quiet else TakeSettings 0 0 0)) (bits_of 8 write_scratchpad)
    (with_stage d await_function)
unfolding bits_of hear_of function_command idle_command
write-taken d = (
  refl,
  refl,
  (
    refl,
    refl,
    (
      refl,
      refl,
      (
        refl,
        refl,
        (refl, refl, (refl, refl, (refl, refl, ((by-busy (busy d)).0, refl, (by-busy (busy d)).1)))),
      ),
    ),
  ),
)
  where
    by-busy : (t : Bool)
        → (holds_wire (if t then with_stage d Quiet else with_stage d (TakeSettings 0 0 0)) ≡ holds_wire d)
        × ((if t then with_stage d Quiet else with_stage d (TakeSettings 0 0 0))
        ≡ with_stage d (if t then Quiet else TakeSettings 0 0 0))
    by-busy true = (refl, refl)
    by-busy false = (refl, refl)

pub write-picks : (code : ℕ) (s : Settings) (d : Device) → SettingBytes s → code < 2 ^ 64 → d.code < 2 ^ 64
    → Hears (λ e. e ≡ settled_by code s d) (write_bits (family_row code) code s) (reset_of d)
unfolding row_of asked
write-picks code s d bytes a b =
    hears-append F (address_bits code write_scratchpad) (settings_bits (family_row code) s) (reset_of d)
    (hears-then _ (Hears F (settings_bits (family_row code) s)) (λ e q. rw q (by_code (eqb d.code code) refl))
    (address_bits code write_scratchpad) (reset_of d)
    (address-picks code write_scratchpad d (with_stage d (if busy d then Quiet else TakeSettings 0 0 0)) a b
    (write-taken d)))
  where
    F : Device → Type 0
    F e = e ≡ settled_by code s d

    by_code : (t : Bool) → eqb d.code code ≡ t
        → Hears (λ e. e ≡ with_stage (with_scratchpad d (if t then pad_written d s else d.scratchpad)) Quiet)
        (settings_bits (family_row code) s)
        (if t then with_stage d (if busy d then Quiet else TakeSettings 0 0 0) else with_stage d Quiet)
    by_code true e = by-busy (busy d)
      where
        by-busy : (u : Bool)
            → Hears (λ e. e ≡ with_stage (with_scratchpad d (if u then d.scratchpad else with_asked d s)) Quiet)
            (settings_bits (family_row code) s)
            (with_stage d (if u then Quiet else TakeSettings 0 0 0))
        by-busy true = quiet-hears _ (settings_bits (family_row code) s) (with_stage d Quiet) refl refl
        by-busy false =
            subst (λ (l : List Bool). Hears (λ f. f ≡ with_stage (with_scratchpad d (with_asked d s)) Quiet) l
            (with_stage d (TakeSettings 0 0 0))) same (settings-taken d s bytes)
          where
            same : settings_bits (row_of d.code d.pins) s ≡ settings_bits (family_row code) s
            same = rw (eqb-true d.code code e)
    by_code false e = quiet-hears _ (settings_bits (family_row code) s) (with_stage d Quiet) refl refl
