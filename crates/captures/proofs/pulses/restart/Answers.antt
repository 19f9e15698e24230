-- The frame is blank.
use Rattle.captures.proofs.pulses.restart.Goals as goal

pub returns : goal.returns
returns c =
    simp c.blank.ensures.answer
