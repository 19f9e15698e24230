-- The blank frame's line has seven bytes and is written at the start.
use Prim.Native.Nat.{◌+◌}
use mathlib.Core.Bool.{false}
use mathlib.Core.Path.{◌≡◌, ap, sym, ◌∙◌}
use native.Mathlib.Omega.{arith}
use lib.ListN.{length}
use Rattle.basic_laws.specs.Laid.{laid}
use Rattle.frame.specs.Frames.{blank_frame}
use Rattle.frame.specs.FramesLaws.{blank-lineable}
use Rattle.frame.specs.Writing.{fed_line}
use Rattle.search.specs.Sweep.{frame-written, blank-line, absence-is, lonely-recording}
use Rattle.search.proofs.record_absence.Goals as goal
use Rattle.search.proofs.record_absence.Goals.{After-write_line_at-written}

wrote : (c : After-write_line_at-written) → (c.write_line_at-written.result.next ≡ 7)
    × (c.write_line_at-written.new.s ≡ laid c.args.recording.now 0
    (fed_line (blank_frame false)))
wrote c =
    let n = blank-line in
    let w = frame-written c.args.recording.now 0 (blank_frame false) (blank-lineable false) (omega arith)
    (omega arith) in
    let f = c.blank.ensures.answer in
    let seven : 0 + length (fed_line (blank_frame false)) ≡ 7 = omega arith in
    (ap (λ r. r.next) c.write_line_at-written.ensures.answer ∙ rw f (w.0 ∙ seven), c.write_line_at-written.ensures.written ∙ rw f w.1)

pub overflow_cast-result : goal.overflow_cast-result
overflow_cast-result c =
    let n = (wrote (goal.at.overflow_cast-result c).After-write_line_at-written).0 in omega arith

pub returns : goal.returns
returns c =
    let w = wrote (goal.at.returns c).After-write_line_at-written in
    let b = c.args.bench in
    record { answer = absence-is _ b w.0; written = w.1 ∙ sym (lonely-recording _ b) }
