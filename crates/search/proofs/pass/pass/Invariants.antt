-- The loop's invariant: the walk is one of the laws at this place, from the walk that the command left on.
use Prim.Native.Nat.{ℕ}
use Rattle.std.specs.Prelude.{true}
use Rattle.basic_laws.specs.Bits.{bits_of}
use Rattle.search_laws.specs.PassLoop.{Walk as PassWalk, walk}
use Rattle.search_laws.specs.Wire.{slots}
use Rattle.bench.specs.declared.Bench.{Bench}
use Rattle.master_rules.specs.Search.{code_length}
use Rattle.master_rules.specs.Buses.{calls}
use Rattle.search.specs.Pass.{Walking}
use Rattle.search.proofs.pass.pass.Given as goal

abbrev pub begun : ℕ → Bench → PassWalk Bench
begun command b = let s = slots calls (bits_of 8 command) b in walk true 0 code_length s.lines s.devices

abbrev pub invariant-loop-place : goal.invariant-loop-place
invariant-loop-place l = Walking l.previous l.departure (begun l.fn.command l.fn.bench) l.place l.w
