-- The tests before a read or a write sends anything, in their order: the given code first, whatever the wire does, then
-- the wire. What they refuse sends nothing. And the bytes read back are as asked just
-- where the device holds the settings that were asked: `held-as-asked`, `asked-as-held`.
use Rattle.std.specs.Prelude.{ℕ, ◌*◌, ◌/◌, ◌%◌, ◌^◌, Bool, false, ◌&&◌, List, ◌≢◌, ◌≡◌, refl, length, get_or}
use Rattle.std.proofs.Math.Bool.{true}
use Rattle.std.proofs.lemmas.Bool.{false≢true}
use Rattle.std.proofs.Common.{sym, ap, ◌∙◌, arith, ne_eqb, eq-eqb, eqb-true, lit<}
use Rattle.std.specs.Int.Bits.{bit_and}
use Rattle.std.proofs.lemmas.Nat.Bits.{and_high}
use Rattle.std.proofs.Math.Dec.{eqb}
use Rattle.std.specs.Prelude.{if◌then◌else◌}
use Rattle.basic_laws.specs.ChoiceLaws.{and_left, and_right}
use Rattle.refusals.specs.Refusals.{accepted, wire_busy}
use Rattle.family.specs.Configuration.{stored_form, as_kept, configuration_as_asked}
use Rattle.family.specs.Families.{with_pins}
use Rattle.family.specs.declared.Properties.{Properties}
use Rattle.rom.specs.Code.{code_refusal}
use Rattle.device.specs.Offer.{nine_bytes}
use Rattle.device.specs.OfferLaws.{nine-byte}
use Rattle.device.specs.Settings.{with_settings}
use Rattle.device.specs.SettingsLaws.{settings-high, settings-low, settings-configuration, settings-same}
use Rattle.device.specs.declared.Settings.{Settings}
use Rattle.bench.specs.Bench.{free}
use Rattle.bench.specs.declared.Bench.{Bench}
use Rattle.master_rules.specs.Access.{refused_at, admission, read_at, as_asked, write_at}

module _ (b : Bench) (code : ℕ) where
  pub unsound-refused : code_refusal code ≢ accepted → admission b code ≡ code_refusal code
  unfolding admission
  unsound-refused h = rw (ne_eqb (code_refusal code) accepted h)

  pub held-refused : code_refusal code ≡ accepted → free b ≡ false → admission b code ≡ wire_busy
  unfolding admission
  held-refused h f = rw (h, f)

  pub read-unsent : admission b code ≢ accepted → read_at b code ≡ refused_at (admission b code) b
  unfolding read_at
  read-unsent h = rw (ne_eqb (admission b code) accepted h)

  pub write-unsent : (s : Settings) → admission b code ≢ accepted → write_at b code s ≡ refused_at (admission b code) b
  unfolding write_at
  write-unsent s h = rw (ne_eqb (admission b code) accepted h)

-- ## The bytes read back

-- the pins are in the low four bits, which a master does not compare where a family has them
stored-alike : (byte a b : ℕ) → stored_form byte a / 16 ≡ stored_form byte b / 16
stored-alike byte a b = let e : bit_and byte 0x60 ≡ byte / 2 ^ 5 % 2 ^ 2 * 2 ^ 5 = and_high byte 2 5 in omega arith

stored-apart : (byte asked a b : ℕ) → byte ≡ stored_form byte a → byte / 16 ≡ stored_form asked b / 16
    → byte ≡ stored_form asked a
stored-apart byte asked a b kept same =
    let e : bit_and byte 0x60 ≡ byte / 2 ^ 5 % 2 ^ 2 * 2 ^ 5 = and_high byte 2 5 in
    let f : bit_and asked 0x60 ≡ asked / 2 ^ 5 % 2 ^ 2 * 2 ^ 5 = and_high asked 2 5 in
    omega arith

stored-as-asked : (row : Properties) (pins asked byte : ℕ)
    → (row.configurable ≡ true → byte ≡ stored_form asked (with_pins row pins).nibble)
    → configuration_as_asked row asked byte ≡ true
stored-as-asked row pins asked byte = by_tests row.configurable row.pinned
  where
    by_tests : (t u : Bool) → (t ≡ true → byte ≡ stored_form asked (if u then pins else row.nibble))
        → (if t then (if u then eqb (byte / 16) (stored_form asked row.nibble / 16)
        else eqb byte (stored_form asked row.nibble)) else true) ≡ true
    by_tests true true h = eq-eqb _ _ (ap (λ (x : ℕ). x / 16) (h refl) ∙ stored-alike asked pins row.nibble)
    by_tests true false h = eq-eqb _ _ (h refl)
    by_tests false u h = refl

asked-as-stored : (row : Properties) (pins asked byte : ℕ) → as_kept (with_pins row pins) byte ≡ true
    → configuration_as_asked row asked byte ≡ true
    → row.configurable ≡ true → byte ≡ stored_form asked (with_pins row pins).nibble
asked-as-stored row pins asked byte = by_tests row.configurable row.pinned
  where
    by_tests : (t u : Bool) → (if t then eqb byte (stored_form byte (if u then pins else row.nibble)) else true) ≡ true
        → (if t then (if u then eqb (byte / 16) (stored_form asked row.nibble / 16)
        else eqb byte (stored_form asked row.nibble)) else true) ≡ true
        → t ≡ true → byte ≡ stored_form asked (if u then pins else row.nibble)
    by_tests true true k a e = stored-apart byte asked pins row.nibble (eqb-true _ _ k) (eqb-true _ _ a)
    by_tests true false k a e = eqb-true _ _ a
    by_tests false u k a e = absurd (false≢true e)

both : {t u : Bool} → t ≡ true → u ≡ true → (t && u) ≡ true
both e f = rw (e, f)

module _ (row : Properties) (pins : ℕ) (pad : List ℕ) (s : Settings) (long : length pad ≡ 8) where
  by_bytes : get_or pad 2 0 ≡ s.high → get_or pad 3 0 ≡ s.low
      → (row.configurable ≡ true → get_or pad 4 0 ≡ stored_form s.configuration (with_pins row pins).nibble)
      → as_asked row s (nine_bytes pad) ≡ true
  unfolding as_asked
  by_bytes high low form =
      rw (nine-byte pad 2 long (lit< tt), nine-byte pad 3 long (lit< tt), nine-byte pad 4 long (lit< tt))
      (both (both (eq-eqb (get_or pad 2 0) s.high high) (eq-eqb (get_or pad 3 0) s.low low))
      (stored-as-asked row pins s.configuration (get_or pad 4 0) form))

  -- a device of the row that holds the settings asked: the bytes read back are as asked, and of no other device
  pub held-as-asked : with_settings (with_pins row pins) pad s ≡ pad → as_asked row s (nine_bytes pad) ≡ true
  held-as-asked e =
      by_bytes (ap (λ (l : List ℕ). get_or l 2 0) (sym e) ∙ settings-high (with_pins row pins) pad s long)
      (ap (λ (l : List ℕ). get_or l 3 0) (sym e) ∙ settings-low (with_pins row pins) pad s long) (λ t.
      ap (λ (l : List ℕ). get_or l 4 0) (sym e) ∙ settings-configuration (with_pins row pins) pad s long t)

  pub asked-as-held : as_kept (with_pins row pins) (get_or pad 4 0) ≡ true → as_asked row s (nine_bytes pad) ≡ true
      → with_settings (with_pins row pins) pad s ≡ pad
  unfolding as_asked
  asked-as-held kept a =
      let first = eqb (get_or pad 2 0) s.high in
      let second = eqb (get_or pad 3 0) s.low in
      let third = configuration_as_asked row s.configuration (get_or pad 4 0) in
      let b : (first && second && third) ≡ true =
      rw (nine-byte pad 2 long (lit< tt), nine-byte pad 3 long (lit< tt), nine-byte pad 4 long (lit< tt)) at a in
      let c = and_left (first && second) third b in
      settings-same (with_pins row pins) pad s (eqb-true _ _ (and_left first second c))
      (eqb-true _ _ (and_right first second c))
      (asked-as-stored row pins s.configuration (get_or pad 4 0) kept (and_right (first && second) third b))
