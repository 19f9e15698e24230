-- The calls on a store (document 02, E6). A refusal leaves the store as it was, and its other numbers are zero.
--     settings_added s code first          5 or 7 for the code, 8 for one that is there, 9 for a new one where 32 have
--                                         ever been added; else it is there: for the first time with these settings at
--                                         version 0, again with those that it had
--     located s code                      what all others begin with: 5 or 7 for the code, 12 for one that was never
--                                         added or is removed; else its entry
--     settings_removed s code              the code is no longer there, and keeps the rest
--     settings_read s code                 its settings and their version
--     settings_changed s code v asked      18 for a version that is not the current one, then 19 at the last; else the
--                                         settings altered as asked, and the version raised by one
use Rattle.std.specs.Prelude.{ℕ, ◌+◌, true, false, not, eqb, ltb}
use Rattle.std.specs.Int.Bits.{bit_and}
use Rattle.std.specs.Prelude.{if◌then◌else◌}
use Rattle.refusals.specs.Refusals.{accepted, duplicate, bench_full, not_found, stale_version, versions_spent}
use Rattle.rom.specs.Code.{code_refusal}
use Rattle.device.specs.declared.Settings.{Settings}
use Rattle.settings.specs.Store.{blank, kept_at, entry_at, with_entry, with_new_entry}
use Rattle.settings.specs.declared.Alter.{Alter}
use Rattle.settings.specs.declared.Alter.TheVariants.{Leave, To}
use Rattle.settings.specs.declared.Alterations.{Alterations}
use Rattle.settings.specs.declared.ChangeDone.{ChangeDone}
use Rattle.settings.specs.declared.Current.{Current}
use Rattle.settings.specs.declared.Entry.{Entry}
use Rattle.settings.specs.declared.Kept.{Kept}
use Rattle.settings.specs.declared.Kept.TheVariants.{At, Nowhere}
use Rattle.settings.specs.declared.Located.{Located}
use Rattle.settings.specs.declared.Store.{Store}
use Rattle.settings.specs.declared.StoreAfter.{StoreAfter}

abbrev pub store_refused : ℕ → Store → StoreAfter
store_refused n s = record { refusal = n; store = s }

abbrev pub store_changed : Store → StoreAfter
store_changed s = record { refusal = accepted; store = s }

-- settings as they are kept: of the configuration the two bits of the resolution, for every family
abbrev pub kept_form : Settings → Settings
kept_form s = record { high = s.high; low = s.low; configuration = bit_and s.configuration 0x60 }

-- ## Adding

abbrev pub first_entry : ℕ → Settings → Entry
first_entry code first = record { code = code; present = true; settings = kept_form first; version = 0 }

abbrev pub added_first : Store → ℕ → Settings → StoreAfter
added_first s code first = if not (ltb s.count 32) then store_refused bench_full s
    else store_changed (with_new_entry s (first_entry code first))

abbrev pub there : Entry → Entry
there e = record { code = e.code; present = true; settings = e.settings; version = e.version }

abbrev pub added_again : Store → ℕ → StoreAfter
added_again s i = if (entry_at s i).present then store_refused duplicate s
    else store_changed (with_entry s i (there (entry_at s i)))

abbrev pub added_at : Store → ℕ → Settings → Kept → StoreAfter
added_at s code first (At i) = added_again s i
added_at s code first Nowhere = added_first s code first

unfoldable pub settings_added : Store → ℕ → Settings → StoreAfter
settings_added s code first =
    if not (eqb (code_refusal code) accepted) then store_refused (code_refusal code) s
    else added_at s code first (kept_at s code)

-- ## A code that is there

abbrev pub missing : ℕ → Located
missing n = record { refusal = n; place = 0; entry = blank }

abbrev pub located_at : Store → ℕ → Located
located_at s i = if (entry_at s i).present then record { refusal = accepted; place = i; entry = entry_at s i }
    else missing not_found

abbrev pub located_where : Store → Kept → Located
located_where s (At i) = located_at s i
located_where s Nowhere = missing not_found

unfoldable pub located : Store → ℕ → Located
located s code = if not (eqb (code_refusal code) accepted) then missing (code_refusal code)
    else located_where s (kept_at s code)

-- ## Removing and reading

abbrev pub gone : Entry → Entry
gone e = record { code = e.code; present = false; settings = e.settings; version = e.version }

unfoldable pub settings_removed : Store → ℕ → StoreAfter
settings_removed s code =
    let found = located s code in
    if not (eqb found.refusal accepted) then store_refused found.refusal s
    else store_changed (with_entry s found.place (gone found.entry))

unfoldable pub settings_read : Store → ℕ → Current
settings_read s code =
    let found = located s code in record {
      refusal = found.refusal;
      settings = found.entry.settings;
      version = found.entry.version;
    }

-- ## Changing

-- one setting under a change
abbrev pub altered : ℕ → Alter → ℕ
altered byte Leave = byte
altered byte (To given) = given

abbrev pub settings_altered : Settings → Alterations → Settings
settings_altered s asked = kept_form (record {
  high = altered s.high asked.high;
  low = altered s.low asked.low;
  configuration = altered s.configuration asked.configuration;
})

-- the version that no change follows
abbrev pub last_version : ℕ
last_version = 65535

abbrev pub change_refused : ℕ → Store → ChangeDone
change_refused n s = record { refusal = n; version = 0; store = s }

abbrev pub altered_entry : Entry → Alterations → Entry
altered_entry e asked = record {
  code = e.code;
  present = e.present;
  settings = settings_altered e.settings asked;
  version = e.version + 1;
}

abbrev pub changed_entry : Store → ℕ → Entry → Alterations → ChangeDone
changed_entry s i e asked =
    if eqb e.version last_version then change_refused versions_spent s
    else record { refusal = accepted; version = e.version + 1; store = with_entry s i (altered_entry e asked) }

unfoldable pub settings_changed : Store → ℕ → ℕ → Alterations → ChangeDone
settings_changed s code version asked =
    let found = located s code in
    if not (eqb found.refusal accepted) then change_refused found.refusal s
    else if not (eqb version found.entry.version) then change_refused stale_version s
    else changed_entry s found.place found.entry asked
