-- A scratchpad with settings has each in its place, and settings that stand there change nothing. 4Eh takes at most
-- three bytes, and stores each at its own place.
--     settings-high, settings-low, settings-configuration     the bytes of a scratchpad with settings
--     settings-same, settings-twice                           settings that stand there already
--     high-stored, low-stored, configuration-stored           a device that has taken the first, the second and the
--                                                             third byte of 4Eh
use Rattle.std.specs.Prelude.{ℕ, ◌≤◌, Bool, true, false, List, ◌≡◌, refl, length, set}
use Rattle.std.proofs.Common.{sym, ap, ◌∙◌, arith, lit<, length-set}
use Rattle.std.proofs.Math.ListN.{get_or}
use Rattle.std.proofs.Math.Seq.{get_or-set_same, get_or-set_other}
use Rattle.std.proofs.lemmas.List.{set-get_or}
use Rattle.std.specs.Prelude.{if◌then◌else◌}
use Rattle.family.specs.Configuration.{stored_form, kept_configuration}
use Rattle.family.specs.declared.Properties.{Properties}
use Rattle.device.specs.Hear.{store_setting}
use Rattle.device.specs.Record.{with_stage, with_scratchpad, row_of}
use Rattle.device.specs.Settings.{with_limits, with_settings, settings_count}
use Rattle.device.specs.declared.Device.{Device}
use Rattle.device.specs.declared.Settings.{Settings}
use Rattle.device.specs.declared.Stage.TheVariants.{TakeSettings, Quiet}

pub settings-few : (row : Properties) → settings_count row ≤ 3
settings-few row = by-test row.configurable
  where
    by-test : (t : Bool) → (if t then 3 else 2) ≤ 3
    by-test true = omega arith
    by-test false = omega arith

-- ## A scratchpad with settings

module _ (row : Properties) (pad : List ℕ) (s : Settings) (long : length pad ≡ 8) where
  limits-long : length (with_limits pad s) ≡ 8
  limits-long = length-set (set pad 2 s.high) 3 s.low ∙ length-set pad 2 s.high ∙ long

  pub settings-high : get_or (with_settings row pad s) 2 0 ≡ s.high
  unfolding with_settings
  settings-high = by-test row.configurable
    where
      limits : get_or (with_limits pad s) 2 0 ≡ s.high
      limits =
          get_or-set_other (set pad 2 s.high) 3 2 s.low 0 (λ e. omega arith)
          ∙ get_or-set_same pad 2 s.high 0 (rw long (lit< tt))

      by-test : (t : Bool) → get_or (if t then set (with_limits pad s) 4 (kept_configuration row s.configuration)
          else with_limits pad s) 2 0 ≡ s.high
      by-test true = get_or-set_other (with_limits pad s) 4 2 _ 0 (λ e. omega arith) ∙ limits
      by-test false = limits

  pub settings-low : get_or (with_settings row pad s) 3 0 ≡ s.low
  unfolding with_settings
  settings-low = by-test row.configurable
    where
      limits : get_or (with_limits pad s) 3 0 ≡ s.low
      limits = get_or-set_same (set pad 2 s.high) 3 s.low 0 (rw (length-set pad 2 s.high, long) (lit< tt))

      by-test : (t : Bool) → get_or (if t then set (with_limits pad s) 4 (kept_configuration row s.configuration)
          else with_limits pad s) 3 0 ≡ s.low
      by-test true = get_or-set_other (with_limits pad s) 4 3 _ 0 (λ e. omega arith) ∙ limits
      by-test false = limits

  pub settings-configuration : row.configurable ≡ true
      → get_or (with_settings row pad s) 4 0 ≡ stored_form s.configuration row.nibble
  unfolding with_settings
  settings-configuration e =
      rw e (get_or-set_same (with_limits pad s) 4 (stored_form s.configuration row.nibble) 0
      (rw limits-long (lit< tt)))

-- those that stand there change nothing
pub settings-same : (row : Properties) (pad : List ℕ) (s : Settings) → get_or pad 2 0 ≡ s.high → get_or pad 3 0 ≡ s.low
    → (row.configurable ≡ true → get_or pad 4 0 ≡ stored_form s.configuration row.nibble)
    → with_settings row pad s ≡ pad
unfolding with_settings
settings-same row pad s high low form = by-test row.configurable refl
  where
    limits : with_limits pad s ≡ pad
    limits =
        ap (λ (l : List ℕ). set l 3 s.low) (ap (λ (x : ℕ). set pad 2 x) (sym high) ∙ set-get_or pad 2 0)
        ∙ ap (λ (x : ℕ). set pad 3 x) (sym low) ∙ set-get_or pad 3 0

    by-test : (t : Bool) → row.configurable ≡ t
        → (if t then set (with_limits pad s) 4 (if t then stored_form s.configuration row.nibble else 0)
        else with_limits pad s) ≡ pad
    by-test true e =
        ap (λ (l : List ℕ). set l 4 (stored_form s.configuration row.nibble)) limits
        ∙ ap (λ (x : ℕ). set pad 4 x) (sym (form e)) ∙ set-get_or pad 4 0
    by-test false e = limits

-- settings written twice are as written once
pub settings-twice : (row : Properties) (pad : List ℕ) (s : Settings) → length pad ≡ 8
    → with_settings row (with_settings row pad s) s ≡ with_settings row pad s
settings-twice row pad s long =
    settings-same row (with_settings row pad s) s (settings-high row pad s long) (settings-low row pad s long)
    (settings-configuration row pad s long)

pub settings-long : (row : Properties) (pad : List ℕ) (s : Settings) → length pad ≡ 8
    → length (with_settings row pad s) ≡ 8
unfolding with_settings
settings-long row pad s long = by-test row.configurable
  where
    by-test : (t : Bool) → length (if t then set (with_limits pad s) 4 (kept_configuration row s.configuration)
        else with_limits pad s) ≡ 8
    by-test true = length-set (with_limits pad s) 4 _ ∙ limits-long row pad s long
    by-test false = limits-long row pad s long

-- ## The bytes of 4Eh

pub high-stored : (d : Device) (x : ℕ)
    → store_setting d 0 x ≡ with_stage (with_scratchpad d (set d.scratchpad 2 x)) (TakeSettings 1 0 0)
unfolding store_setting
high-stored d x = by-test (row_of d.code d.pins).configurable refl
  where
    by-test : (t : Bool) → (row_of d.code d.pins).configurable ≡ t
        → store_setting d 0 x ≡ with_stage (with_scratchpad d (set d.scratchpad 2 x)) (TakeSettings 1 0 0)
    by-test true e = rw e
    by-test false e = rw e

pub low-stored : (d : Device) (x : ℕ)
    → store_setting d 1 x ≡ with_stage (with_scratchpad d (set d.scratchpad 3 x))
    (if (row_of d.code d.pins).configurable then TakeSettings 2 0 0 else Quiet)
unfolding store_setting
low-stored d x = by-test (row_of d.code d.pins).configurable refl
  where
    by-test : (t : Bool) → (row_of d.code d.pins).configurable ≡ t
        → store_setting d 1 x ≡ with_stage (with_scratchpad d (set d.scratchpad 3 x))
        (if (row_of d.code d.pins).configurable then TakeSettings 2 0 0 else Quiet)
    by-test true e = rw e
    by-test false e = rw e

pub configuration-stored : (d : Device) (x : ℕ) → (row_of d.code d.pins).configurable ≡ true
    → store_setting d 2 x ≡ with_stage (with_scratchpad d
    (set d.scratchpad 4 (kept_configuration (row_of d.code d.pins) x))) Quiet
unfolding store_setting
configuration-stored d x e = rw e
