use Rattle.std.proofs.Common.{rules, arith}
use Rattle.std.proofs.lemmas.Grind.{common_steps}
use Rattle.pieces.specs.CarriedLaws.{reads-less, reads_on}
use Rattle.streams.proofs.FollowingLaws.{behind-read}
use Rattle.streams.proofs.following.next_piece.Goals as goal

pub returns-clause-leads : goal.returns-clause-leads
returns-clause-leads g c =
    behind-read g.F.ReadyFollower.LeadsTo _ _ _ _ c.put_back-held.result c.read-came.result (search rules)
    (grind (arith, common_steps)) c.follow-going.ensures.leads

pub returns-clause-on : goal.returns-clause-on
returns-clause-on g c =
    λ some. reads_on c.args.reads c.read-came.result c.follow-going.result (rw (← c.reads_left.ensures.answer) some)

pub returns-clause-reads : goal.returns-clause-reads
returns-clause-reads g c =
    λ some. rw c.reads_left.ensures.answer (reads-less c.args.reads c.read-came.result c.follow-going.result some)
