-- What stands in the buffer is what the reader hands on for the piece, whatever stood there before, and the reader is
-- that after the piece, also where a refusal came.
use Rattle.std.proofs.Common.{◌+◌, ◌≤◌, ◌≡◌, ◌∙◌, length, take, sym, ap, arith}
use Rattle.streams.proofs.FollowingLaws.{all-came}
use Rattle.captures.specs.declared.edge_printing.Printed.{Printed}
use Rattle.std.specs.Prelude.{IsTrue}
use Rattle.capture_laws.specs.Transcript.{enough_room, Waiting, piece_after}
use Rattle.edges_to_frames.proofs.Waits.{piece_told, reader_told, goes_on}
use Rattle.edges_to_frames.proofs.FramesReadyFollower.follow.Goals as goal
use Rattle.edges_to_frames.proofs.FramesReadyFollower.follow.Given.{Over}
use Rattle.edges_to_frames.proofs.FramesReadyFollower.follow.Goals.{After-print_piece-printed}

module _ (g : Over) (c : After-print_piece-printed g) where
  wide : enough_room + length c.args.piece.now ≤ length c.args.self.now.text
  wide = let fits = c.requires.fits in omega (arith, fits.within, fits.allowed)

  led : c.print_piece-printed.result.reader ≡ piece_after c.args.self.now.reader c.args.piece.now
  led =
      let now = c.args.self.now in
      rw c.print_piece-printed.ensures.answer
      (reader_told now.reader (now.waits c.requires.waits) c.args.piece.now now.text wide)

  -- where no refusal came
  on : IsTrue c.print_piece-printed.result.going → ∥ Waiting c.print_piece-printed.result.reader ∥₁
  on going =
      let e = c.print_piece-printed.ensures.answer in
      let now = c.args.self.now in
      rw e (goes_on now.reader (now.waits c.requires.waits) c.args.piece.now now.text wide
      (sym (ap (λ (q : Printed). q.going) e) ∙ going)).1

pub write_piece-wrote-requires : goal.write_piece-wrote-requires
write_piece-wrote-requires g c =
    let at = (goal.at.write_piece-wrote-requires g c).After-print_piece-printed in
    let e = c.print_piece-printed.ensures in
    let now = c.args.self.now in
    ap (take c.print_piece-printed.result.written) e.written
    ∙ rw e.answer (piece_told now.reader (now.waits c.requires.waits) c.args.piece.now now.text (wide g at))

pub returns-then-wrote-clause-leads : goal.returns-then-wrote-clause-leads
returns-then-wrote-clause-leads g c =
    let at = (goal.at.returns-then-wrote-clause-leads g c).After-print_piece-printed in
    rw (all-came c.args.piece.now c.args._held c.requires.held c.requires.front) (led g at)

pub returns-else-wrote-clause-leads : goal.returns-else-wrote-clause-leads
returns-else-wrote-clause-leads g c =
    let at = (goal.at.returns-else-wrote-clause-leads g c).After-print_piece-printed in
    rw (all-came c.args.piece.now c.args._held c.requires.held c.requires.front) (led g at)

pub invariant_of-self : goal.invariant_of-self
invariant_of-self g c =
    let at = (goal.at.invariant_of-self g c).After-print_piece-printed in
    record { waits = on g at }
