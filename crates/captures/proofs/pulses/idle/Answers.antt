-- The frame is blank.
use Rattle.captures.proofs.pulses.idle.Goals as goal

pub returns : goal.returns
returns c =
    record { answer = simp c.blank.ensures.answer }
