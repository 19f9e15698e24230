use Rattle.streams.proofs.FollowingLaws.{led_on}
use Rattle.streams.proofs.suited.read_pieces.Goals as goal

pub loop-preserved : goal.loop-preserved
loop-preserved g c =
    let next = c.in-Some.ensures in
    record {
      suits = c.next_piece.ensures.suits;
      waits = next.waits;
      led = led_on g.F.Follower.LeadsTo _ _ _ _ c.loop.invariant.led next.leads;
    }
