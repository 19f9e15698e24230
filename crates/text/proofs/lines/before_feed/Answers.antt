use Rattle.std.proofs.Common.{◌≡◌, ◌∙◌}
use Rattle.text.specs.Lines.{line_feed, feed_at}
use Rattle.basic_laws.specs.FirstLaws.{at-within}
use Rattle.basic_laws.specs.PositionLaws.{found-at}
use Rattle.text.proofs.lines.before_feed.Goals as goal

pub returns : goal.returns
returns c =
    let s = c.args.s.now in
    let count : c.unwrap_or.result ≡ feed_at s = c.unwrap_or.ensures ∙ rw c.first_feed.ensures (found-at line_feed s) in
    record { count = count; within = rw count (at-within line_feed s) }
