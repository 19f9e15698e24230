-- A line that closes a frame, and any other.
use Rattle.captures.proofs.EdgesLaws.{feed-closes, feed-moves}
use mathlib.Core.Path.{◌∙◌}
use Rattle.captures.proofs.edges.take_feed.Goals as goal

pub returns-then-turn : goal.returns-then-turn
returns-then-turn c =
    let a = c.args in
    let e = c.end_line-turn.ensures in
    let f = feed-closes a.reader a.out.now (rw e at c.if-turn.true) in
    record { answer = rw e at c.close.ensures.answer ∙ f.0; written = c.close.ensures.written ∙ f.1 }

pub returns : goal.returns
returns c =
    let a = c.args in
    let e = c.end_line-turn.ensures in
    let f = feed-moves a.reader a.out.now (rw e at c.if-turn.false) in
    record { answer = rw e f.0; written = f.1 }
