-- The loop's invariant is `MendingWalk`: text and report of the lines before `at` are laid, and what is to come is that
-- of the lines from it on, of which none is split off yet.
use Rattle.std.proofs.Common.{◌≡◌, drop}
use Rattle.std.specs.Slice.Iter.{split_inclusive_rest}
use Rattle.mending.specs.Laws.{MendingWalk}
use Rattle.mending.proofs.texts.mend_whole.Given as goal

abbrev pub invariant-loop-line : goal.invariant-loop-line
invariant-loop-line l = record {
  callable : (goal.iterator-loop-line).can_next l.line-iterator;
  finite : (goal.iterator-loop-line).is_finite l.line-iterator;
  left : split_inclusive_rest l.line-iterator ≡ drop l.at l.s;
  walk : MendingWalk l.s l.initial.out l.initial.report l.at l.written l.lines l.out l.report;
}
