-- The pieces so far have led here, and another can be followed where one may come. The measure is the number of reads
-- that may follow.
use Rattle.std.proofs.Common.{ℕ, ◌<◌, List, length}
use Rattle.std.specs.Prelude.{IsTrue}
use Rattle.std.specs.List.{FoldsTo}
use Rattle.streams.proofs.following.read_when_ready.Given as goal

abbrev pub invariant-loop-run : goal.invariant-loop-run
invariant-loop-run g l = record {
  suits : g.F.ReadyFollower.Suits l.follower (length l.buffer);
  on : 0 < l.run.reads → IsTrue l.run.going;
  waits : IsTrue l.run.going → g.F.ReadyFollower.Waits l.follower;
  led : (pieces : List (List ℕ)) × FoldsTo g.F.ReadyFollower.LeadsTo l.initial.follower pieces l.follower;
}

abbrev pub decreases-loop-run : goal.decreases-loop-run
decreases-loop-run g l = l.run.reads
