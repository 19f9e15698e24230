-- The loop's invariant: the triples from `place` on are allowed, and `code` is the number of their third bits.
use Prim.Native.Nat.{◌*◌}
use mathlib.Core.Bool.{true}
use mathlib.Core.Path.{◌≡◌}
use lib.ListN.{drop}
use Rattle.basic_laws.specs.Bits.{number_of}
use Rattle.naming.specs.Naming.{triples_allowed, thirds, pass_slots}
use Rattle.naming.proofs.read_pass.Given as goal

abbrev pub invariant-loop-place : goal.invariant-loop-place
invariant-loop-place l = record {
  allowed : triples_allowed (drop (3 * l.place) (pass_slots l.bits)) ≡ true;
  number : l.code ≡ number_of (thirds (drop (3 * l.place) (pass_slots l.bits)));
}
