-- The invariant of the runs of calls on a store: each code that was ever added has one entry, and the entry is what
-- its account comes to; a code that has none has no account. A call about one code replaces its entry or puts one
-- behind the others, and leaves the places and entries of all other codes.
--     Keeps b         the invariant
--     book-keeps      it holds after every run
--     keeps-read      so that a read shows what the account comes to
use Rattle.std.specs.Prelude.{ℕ, ◌≤◌, true, map, ◌≡◌, length}
use Rattle.basic_laws.specs.Each.{Distinct}
use Rattle.settings.specs.Store.{live_entries, kept_at, entry_at}
use Rattle.settings.specs.Runs.{Account, no_account}
use Rattle.settings.specs.Runs.{Book, settled}
use Rattle.settings.specs.Runs.{InTurn}
use Rattle.settings.specs.declared.Entry.{Entry}
use Rattle.settings.specs.declared.Kept.{Kept}
use Rattle.settings.specs.declared.Kept.TheVariants.{At, Nowhere}
use Rattle.settings.specs.declared.Store.{Store}

-- ## An entry and its account

pub record Matches (a : Account) (e : Entry) : Type 0 where
  pub known_is : a.known ≡ true
  pub present-is : e.present ≡ a.present
  pub settings-are : e.settings ≡ settled a
  pub version-is : e.version ≡ length a.changes

abbrev pub Held : Store → Account → Kept → Type 0
Held s a (At i) = Matches a (entry_at s i)
Held s a Nowhere = a ≡ no_account

-- ## The invariant

pub record Keeps (b : Book) : Type 0 where
  pub long : length b.store.entries ≡ 32
  pub few : b.store.count ≤ 32
  pub codes-are : map (λ e. e.code) (live_entries b.store) ≡ b.codes
  pub distinct : Distinct b.codes
  pub held : (k : ℕ) → Held b.store (b.accounts k) (kept_at b.store k)
  pub turn : (k : ℕ) → InTurn 0 (b.accounts k).changes
