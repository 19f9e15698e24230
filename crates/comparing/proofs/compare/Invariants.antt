-- The loop's invariant: so many lines are the same in both, and the lines behind them begin at the place, of which none
-- is split off yet.
use Rattle.std.proofs.Common.{◌≡◌, drop}
use Rattle.std.specs.Iterator.Adapters.{zip_first, zip_second}
use Rattle.std.specs.Slice.Iter.{split_inclusive_rest}
use Rattle.comparing.specs.DepartureLaws.{Walked}
use Rattle.comparing.proofs.compare.Given as goal

abbrev pub invariant-loop-line : goal.invariant-loop-line
invariant-loop-line l = record {
  callable : (goal.iterator-loop-line).can_next l.line-iterator;
  finite : (goal.iterator-loop-line).is_finite l.line-iterator;
  left : split_inclusive_rest (zip_first l.line-iterator) ≡ drop l.at l.reference;
  left_other : split_inclusive_rest (zip_second l.line-iterator) ≡ drop l.at l.other;
  walked : Walked l.reference l.other l.at l.shared;
}
