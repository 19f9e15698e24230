-- The loop's invariant: for each place passed a byte of eight slots has been read, and stands there.
use Rattle.std.proofs.Common.{◌≡◌, ◌*◌}
use Rattle.basic_laws.specs.Laid.{laid}
use Rattle.master_rules.specs.Access.{after_slots, bytes_shown}
use Rattle.at_code.proofs.read_reply.Given as goal

abbrev pub invariant-loop-place : goal.invariant-loop-place
invariant-loop-place l = record {
  bench_is : l.b ≡ after_slots (8 * l.place-index) l.initial.b;
  pad_is : l.place-items ≡ laid l.initial.place-items 0 (bytes_shown l.place-index l.initial.b);
}
