-- What is still to run of the piece leads where the whole piece leads. The measure is what is left of the piece.
use Rattle.std.proofs.Common.{◌≡◌, ◌≤◌, ◌-◌, length, drop}
use Rattle.sessions.specs.Session.{run_after, run_at, Holding}
use Rattle.consoles.proofs.TalkReadyFollower.follow.Given as goal

abbrev pub invariant-loop-at : goal.invariant-loop-at
invariant-loop-at g l =
    let C = g.C.Answerer in
    record {
      within : l.at ≤ length l.piece;
      holding : Holding l.self.line l.self.held;
      room : C.room ≤ length l.self.out.now;
      ran : run_after C.console (run_at (C.state l.initial.self.console) l.initial.self.line l.initial.self.held) l.piece
          ≡ run_after C.console (run_at (C.state l.self.console) l.self.line l.self.held) (drop l.at l.piece);
    }

abbrev pub decreases-loop-at : goal.decreases-loop-at
decreases-loop-at g l = length l.piece - l.at
