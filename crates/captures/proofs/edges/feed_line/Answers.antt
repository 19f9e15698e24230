-- The line gets its characters, and its feed if it has one.
use Rattle.std.proofs.Common.{◌∙◌, ap, sym}
use Rattle.basic_laws.specs.Fold.{fold}
use Rattle.captures.specs.Edges.{on_byte}
use Rattle.captures.proofs.EdgesLaws.{line-open, line-whole, ends-in-feed, ends-in-none}
use Rattle.captures.proofs.edges.feed_line.Goals as goal

pub returns-in-Some : goal.returns-in-Some
returns-in-Some c =
    let l = c.args.line.now in
    let cases = c.in-Some.ensures.cases in
    let plain = rw (← cases.1) at c.requires.1 in
    let parts = rw (← cases.1) at (ends-in-feed l c.requires.1 cases.0) in
    record {
      answer = ap (fold on_byte record { reader = c.args.reader; out = c.args.out.now }) parts
          ∙ line-whole c.args.reader c.args.out.now c.requires.0 _ plain
          ∙ sym (rw (
            c.take_feed.ensures.answer,
            c.take_feed.ensures.written,
            c.with_line-held.ensures,
            c.gather.ensures.answer,
          ));
    }

pub returns-in-None : goal.returns-in-None
returns-in-None c =
    let plain = ends-in-none c.args.line.now c.requires.1 c.in-None.ensures.cases in
    record {
      answer = line-open c.args.reader c.args.out.now c.requires.0 _ plain
          ∙ sym (rw (c.with_line.ensures, c.gather-in-None.ensures.answer));
    }
