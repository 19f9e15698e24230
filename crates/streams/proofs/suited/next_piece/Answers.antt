use Rattle.std.proofs.Common.{rules, arith}
use Rattle.std.proofs.lemmas.Grind.{common_steps}
use Rattle.streams.proofs.FollowingLaws.{after-read}
use Rattle.streams.proofs.suited.next_piece.Goals as goal

pub returns-then-follow-clause-leads : goal.returns-then-follow-clause-leads
returns-then-follow-clause-leads g c =
    after-read g.F.Follower.LeadsTo _ _ _ _ c.put_back-held.result c.read-count.result (search rules) (omega arith)
    (grind (arith, common_steps)) (c.follow.ensures.leads c.if-follow.true)
