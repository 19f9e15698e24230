use Rattle.std.proofs.Common.{◌≡◌, ◌<◌, ◌≤◌, ◌∙◌, length, sym, subst, arith}
use Rattle.streams.proofs.FollowingLaws.{all-came}
use Rattle.sessions.specs.Session.{run_at, held_ended}
use Rattle.sessions.proofs.SessionLaws.{piece-done, line-place, line-rest, line-holds}
use Rattle.consoles.proofs.TalkReadyFollower.follow.Goals as goal

pub loop-at-preserved : goal.loop-at-preserved
loop-at-preserved g c =
    let C = g.C.Answerer.console in
    let l = c.loop-at in
    let t = c.take_line-gathered in
    let e = c.end_line in
    let v = g.C.Answerer.state l.self.console in
    let w = g.C.Answerer.state e.new.self.console in
    let n = e.new.self.held in
    let before : l.at < length c.args.piece.now = omega arith in
    let is : run_at w t.new.line n ≡ held_ended C (run_at v t.new.line t.result.held) t.result.whole =
    subst (λ u. run_at w u n ≡ held_ended C (run_at v t.new.line t.result.held) t.result.whole) e.ensures.line e.ensures.run in
    record {
      within = (line-place C v l.invariant.holding c.args.piece.now l.at t.result t.ensures.answer t.new.line
          t.ensures.written before).1;
      holding = rw e.ensures.line (line-holds C v l.invariant.holding c.args.piece.now l.at t.result t.ensures.answer
          t.new.line t.ensures.written before n t.auto.line e.ensures.few);
      room = omega (arith, e.ensures.room);
      ran = rw e.ensures.line (l.invariant.ran ∙ line-rest C v l.invariant.holding c.args.piece.now l.at t.result
          t.ensures.answer t.new.line t.ensures.written before w n is);
    }

pub returns-clause-leads : goal.returns-clause-leads
returns-clause-leads g c =
    let l = c.loop-at in
    let past : length c.args.piece.now ≤ l.at = omega arith in
    let done = piece-done g.C.Answerer.console (run_at (g.C.Answerer.state l.self.console) l.self.line l.self.held)
    c.args.piece.now l.at past in
    let all = all-came c.args.piece.now c.args._held c.requires.held c.requires.front in
    rw all (sym (l.invariant.ran ∙ done))
