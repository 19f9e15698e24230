-- What holds after every history: the bench is sound, its codes are those added, in order, and each device's page is
-- the book's. A slot and a reset keep it, so that every call that only makes resets and slots does; each other call
-- does to codes and pages what its entry says.
--     Reached l         the invariant of a ledger
--     reached-after     it holds after every history
use Rattle.std.specs.Prelude.{ℕ, List, ◌≡◌}
use Rattle.basic_laws.specs.Each.{Each}
use Rattle.search_laws.specs.Numbers.{Below}
use Rattle.device.specs.declared.Device.{Device}
use Rattle.device.specs.declared.Page.{Page}
use Rattle.bench.specs.Bench.{live}
use Rattle.bench.specs.Sound.{codes_of, BenchSound}
use Rattle.bench.specs.declared.Bench.{Bench}
use Rattle.history_laws.specs.History.{Ledger}

-- each device's page is the book's
abbrev pub PagesAre : (ℕ → Page) → List Device → Type 0
PagesAre book = Each (λ d. d.page ≡ book d.code)

pub record Marked (l : Ledger) : Type 0 where
  pub codes-are : codes_of l.bench ≡ l.codes
  pub codes-fit : Below 64 l.codes
  pub pages-are : PagesAre l.book (live l.bench)

pub record Reached (l : Ledger) : Type 0 where
  pub sound : BenchSound l.bench
  pub marked : Marked l

-- the ledger with another bench
abbrev pub on : Ledger → Bench → Ledger
on l b = record { bench = b; codes = l.codes; book = l.book }
