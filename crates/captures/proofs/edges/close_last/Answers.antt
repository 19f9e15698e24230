-- The writer refuses, or the last frame is there.
use Rattle.captures.proofs.EdgesLaws.{last-refused, last_done}
use mathlib.Core.Path.{◌∙◌}
use Rattle.captures.proofs.edges.close_last.Goals as goal

pub returns-then-written-ne-ACCEPTED : goal.returns-then-written-ne-ACCEPTED
returns-then-written-ne-ACCEPTED c =
    let a = c.args in
    let w = c.write_line_at-written.ensures in record {
      answer = rw (c.refuse.ensures, w.answer) at c.answer_of.ensures
          ∙ last-refused a.reader a.out.now (rw w.answer at c.if-written-ne-ACCEPTED.true);
      written = w.written;
    }

pub returns : goal.returns
returns c =
    let a = c.args in
    let w = c.write_line_at-written.ensures in record {
      answer = rw w.answer at c.finish.ensures ∙ last_done a.reader a.out.now
          (rw w.answer at c.if-written-ne-ACCEPTED.false);
      written = w.written;
    }
