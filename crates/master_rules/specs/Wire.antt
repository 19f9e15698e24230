-- Runs of slots that a master makes on the bench: each is a run of the bench's own calls, refusals included.
--     sent n x b           the bench after the n lowest bits of the number x, one slot each, first bit lowest
--     shown offers b       the line's bits while the master offers these
use Rattle.std.specs.Prelude.{ℕ, Bool, List}
use Rattle.search_laws.specs.Reads.{after_bits}
use Rattle.search_laws.specs.Wire.{slots}
use Rattle.master_rules.specs.Buses.{calls}
use Rattle.bench.specs.declared.Bench.{Bench}

abbrev pub sent : ℕ → ℕ → Bench → Bench
sent n x b = after_bits calls n x b

abbrev pub shown : List Bool → Bench → List Bool
shown offers b = (slots calls offers b).lines
