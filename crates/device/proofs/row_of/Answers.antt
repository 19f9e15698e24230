-- The row of the family, then the pins.
use Rattle.device.specs.Record.{row_of}
use Rattle.device.proofs.row_of.Goals as goal

pub returns : goal.returns
unfolding row_of
returns c =
    record { answer = simp (c.with_pins.ensures.answer, ← c.family_row.ensures.answer) }
