-- The count is measured with the configuration that stands in the scratchpad.
use Rattle.scratchpad.specs.Stored.{stored_reading}
use Rattle.scratchpad.proofs.stored_reading.Goals as goal

pub returns : goal.returns
unfolding stored_reading
returns c =
    record { answer = simp c.measured.ensures.answer }
