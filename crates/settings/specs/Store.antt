-- A store of settings (document 02, E6): up to 32 codes, in the order in which they were first added, each with its
-- settings and their version.
--     live_entries s       the entries of the codes that were ever added
--     empty_store          where every run of calls starts
--     kept_at s code       where the code is kept, there or removed
--     entry_at s i         the entry at a place
--     with_entry s i e     the store with another entry at a place
--     with_new_entry s e    the store with an entry behind the others
use Rattle.std.specs.Prelude.{ℕ, ◌+◌, false, List, eqb, get_or, set, take, replicate}
use Rattle.basic_laws.specs.First.{first_with}
use Rattle.settings.specs.declared.Entry.{Entry}
use Rattle.settings.specs.declared.Kept.{Kept}
use Rattle.settings.specs.declared.Kept.TheVariants.{At, Nowhere}
use Rattle.settings.specs.declared.Store.{Store}

abbrev pub live_entries : Store → List Entry
live_entries s = take s.count s.entries

-- what stands in a place that no code has taken
abbrev pub blank : Entry
blank = record { code = 0; present = false; settings = record { high = 0; low = 0; configuration = 0 }; version = 0 }

abbrev pub empty_store : Store
empty_store = record { entries = replicate 32 blank; count = 0 }

unfoldable pub kept_at : Store → ℕ → Kept
kept_at s code = first_with (λ e. eqb e.code code) At Nowhere 0 (live_entries s)

abbrev pub entry_at : Store → ℕ → Entry
entry_at s i = get_or s.entries i blank

abbrev pub with_entry : Store → ℕ → Entry → Store
with_entry s i e = record { entries = set s.entries i e; count = s.count }

abbrev pub with_new_entry : Store → Entry → Store
with_new_entry s e = record { entries = set s.entries s.count e; count = s.count + 1 }
