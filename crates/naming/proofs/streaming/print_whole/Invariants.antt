-- The loop's invariant is `Running`: the text of the lines before `at` is laid, and what is to come is that of the
-- lines from it on, of which none is split off yet.
use Rattle.std.proofs.Common.{◌≡◌, drop}
use Rattle.std.specs.Slice.Iter.{split_inclusive_rest}
use Rattle.pieces.specs.Walk.{Running}
use Rattle.naming.specs.Printing.{printed_line}
use Rattle.naming.specs.Streaming.{most_printed}
use Rattle.naming.proofs.streaming.print_whole.Given as goal

abbrev pub invariant-loop-line : goal.invariant-loop-line
invariant-loop-line l = record {
  callable : (goal.iterator-loop-line).can_next l.line-iterator;
  finite : (goal.iterator-loop-line).is_finite l.line-iterator;
  left : split_inclusive_rest l.line-iterator ≡ drop l.at l.s;
  running : Running printed_line most_printed l.s l.initial.out l.at l.written l.out;
}
