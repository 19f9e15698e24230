-- The frame of a pass has at most 200 slots, so that its line of at most 57 bytes has room, and the counts stay small.
use Prim.Native.Nat.{◌+◌}
use mathlib.Core.Path.{◌≡◌, ◌∙◌, ap}
use native.Mathlib.Omega.{arith}
use lib.ListN.{length}
use Rattle.basic_laws.specs.Laid.{laid}
use Rattle.frame.specs.Writing.{fed_line}
use Rattle.search.specs.Sweep.{pass_from, PassFrame, next-frame, frame-written, swept-is}
use Rattle.search.proofs.turn.Goals as goal
use Rattle.search.proofs.turn.Goals.{After-pass-w, After-write_line_at-written}

-- the pass that was made, its frame, and what of it is written
made : (c : After-pass-w) → c.pass-w.result ≡ pass_from c.args.command c.args.s c.args.restarted
unfolding pass_from
made c = c.pass-w.ensures.answer

framed : (c : After-pass-w) → PassFrame c.pass-w.result.shown
framed c = rw (made c) (next-frame c.args.command c.args.s c.args.restarted)

wrote : (c : After-write_line_at-written) → PassFrame c.pass-w.result.shown
    → (c.write_line_at-written.result.next ≡ c.args.s.bytes + length (fed_line c.pass-w.result.shown))
    × (c.write_line_at-written.new.s ≡ laid c.args.recording.now c.args.s.bytes (fed_line c.pass-w.result.shown))
wrote c f =
    let few = c.requires.0.bytes-few in
    let w = frame-written c.args.recording.now c.args.s.bytes c.pass-w.result.shown f.carried
    f.bytes-few (omega arith) in
    (ap (λ r. r.next) c.write_line_at-written.ensures.answer ∙ w.0, c.write_line_at-written.ensures.written ∙ w.1)

pub overflow_add-result-2 : goal.overflow_add-result-2
overflow_add-result-2 c =
    let few = c.requires.0.slots-few in
    let more = (framed (goal.at.overflow_add-result-2 c).After-pass-w).slots-few in
    omega arith

pub overflow_cast-result : goal.overflow_cast-result
overflow_cast-result c =
    let f = framed (goal.at.overflow_cast-result c).After-pass-w in
    let few = c.requires.0.bytes-few in
    let more = f.bytes-few in
    let next = (wrote (goal.at.overflow_cast-result c).After-write_line_at-written f).0 in
    omega arith

pub returns : goal.returns
returns c =
    let f = framed (goal.at.returns c).After-pass-w in
    let w = wrote (goal.at.returns c).After-write_line_at-written f in
    let m = made (goal.at.returns c).After-pass-w in
    rw (← m) (record {
      answer = swept-is c.args.s c.pass-w.result _ _ _ c.goes_on.ensures.answer c.enter-codes.ensures.answer w.0;
      listed = c.enter-codes.ensures.listed;
      written = w.1;
    })
