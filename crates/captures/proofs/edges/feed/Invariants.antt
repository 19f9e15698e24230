-- The invariant: no refusal has come, and what is still to come of the piece makes of reader and buffer what the whole
-- piece makes of those at the start.
use Rattle.std.proofs.Common.{◌≡◌, length}
use Rattle.std.specs.Slice.Iter.{split_inclusive_rest}
use Rattle.basic_laws.specs.Fold.{fold}
use Rattle.refusals.specs.Refusals.{accepted}
use Rattle.captures.specs.Edges.{on_byte}
use Rattle.captures.proofs.edges.feed.Given as goal

abbrev pub invariant-loop-line : goal.invariant-loop-line
invariant-loop-line l = record {
  callable : (goal.iterator-loop-line).can_next l.line-iterator;
  finite : (goal.iterator-loop-line).is_finite l.line-iterator;
  size : length l.out ≡ length l.initial.out;
  well : l.held.refusal ≡ accepted;
  coming : fold on_byte record { reader = l.held; out = l.out } (split_inclusive_rest l.line-iterator)
      ≡ fold on_byte record { reader = l.initial.held; out = l.initial.out } l.s;
}
