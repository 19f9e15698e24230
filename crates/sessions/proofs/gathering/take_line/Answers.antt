-- The part of the line ends at its feed or at the end of the piece, and its characters are held behind those before it.
use Prim.Native.Nat.{◌≤◌}
use native.Mathlib.Omega.{arith}
use lib.ListN.{length}
use Rattle.text.specs.LinesLaws.{line-by-end}
use Rattle.sessions.specs.GatheringLaws.{taken-past}
use Rattle.sessions.proofs.gathering.take_line.Goals as goal

pub returns-then-piece-at : goal.returns-then-piece-at
returns-then-piece-at c =
    let all = taken-past c.args.line.now c.args.held c.args.piece.now c.args.at c.if-piece-at.true in record { answer = all.0; written = all.1 }

pub slice_bounds-hold-end : goal.slice_bounds-hold-end
slice_bounds-hold-end c =
    let before : c.args.at ≤ length c.args.piece.now = omega arith in
    let within = (line-by-end c.args.piece.now c.args.at c.line_end-end.result before
    c.line_end-end.ensures.answer).0 in
    omega arith
