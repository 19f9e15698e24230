-- The family of the code, then its properties.
use Rattle.device.proofs.family_row.Goals as goal

pub returns : goal.returns
returns c =
    record { answer = simp (← c.family_of.ensures.answer, c.properties_of.ensures.answer) }
