-- By the definition's own tests; what is held is no more than may be.
use borrow.Author.Tests.{eq-eqb, ne_eqb}
use lib.Seq.{take_all}
use Rattle.naming.specs.Streaming.{most_held_of_recording}
use Rattle.host.proofs.tell_open.Goals as goal

pub returns-then-not-ended : goal.returns-then-not-ended
returns-then-not-ended c =
    rw (c.if-not-ended.true, take_all most_held_of_recording c.args.line.now c.requires) c.tell_none.ensures

pub returns-then-line-eq0 : goal.returns-then-line-eq0
returns-then-line-eq0 c =
    rw (c.if-not-ended.false, eq-eqb _ _ c.if-line-eq0.true) c.tell_none-then-line-eq0.ensures

pub returns : goal.returns
returns c =
    rw (
      c.if-not-ended.false,
      ne_eqb _ _ c.if-line-eq0.false,
      ← c.name_line.ensures.answer,
    ) c.tell_name.ensures
