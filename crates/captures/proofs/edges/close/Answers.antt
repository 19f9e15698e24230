-- The writer refuses, or the reader goes on behind the frame.
use Rattle.captures.proofs.EdgesLaws.{closing-refused, closing-done}
use mathlib.Core.Path.{◌∙◌}
use Rattle.captures.proofs.edges.close.Goals as goal

pub returns-then-written-ne-ACCEPTED : goal.returns-then-written-ne-ACCEPTED
returns-then-written-ne-ACCEPTED c =
    let a = c.args in
    let w = c.write_line_at-written.ensures in record {
      answer = rw w.answer at c.refuse.ensures ∙ closing-refused a.before a.after a.out.now
          (rw w.answer at c.if-written-ne-ACCEPTED.true);
      written = w.written;
    }

pub returns : goal.returns
returns c =
    let a = c.args in
    let w = c.write_line_at-written.ensures in
    record { answer = rw w.answer (closing-done a.before a.after a.out.now (rw w.answer at c.if-written-ne-ACCEPTED.false)); written = w.written }
