-- The reader that begins waits for a piece.
use Rattle.capture_laws.specs.CallLaws.{waiting-start}
use Rattle.edges_to_frames.proofs.main.Goals as goal

pub invariant_of-frames : goal.invariant_of-frames
invariant_of-frames c = record { waits = λ going. rw c.start.ensures.answer (∣ waiting-start ∣₁) }
