use Rattle.streams.proofs.FollowingLaws.{led_by}
use Rattle.streams.proofs.following.read_when_ready.Goals as goal

pub loop-run-preserved : goal.loop-run-preserved
loop-run-preserved g c =
    let next = c.next_piece-run.ensures in
    record {
      suits = next.suits;
      on = next.on;
      waits = next.waits;
      led = led_by g.F.ReadyFollower.LeadsTo _ _ _ _ c.loop-run.invariant.led next.leads;
    }
