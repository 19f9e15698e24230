-- The pieces so far have led here, and another can be followed.
use Rattle.std.proofs.Common.{ℕ, List, length}
use Rattle.std.specs.List.{FoldsTo}
use Rattle.streams.proofs.suited.read_pieces.Given as goal

abbrev pub invariant-loop : goal.invariant-loop
invariant-loop g l = record {
  suits : g.F.Follower.Suits l.follower (length l.buffer);
  waits : g.F.Follower.Waits l.follower;
  led : (pieces : List (List ℕ)) × FoldsTo g.F.Follower.LeadsTo l.initial.follower pieces l.follower;
}
