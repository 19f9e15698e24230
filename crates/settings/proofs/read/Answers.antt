-- What was located, without its place.
use Rattle.settings.specs.Calls.{settings_read}
use Rattle.settings.proofs.read.Goals as goal

pub returns : goal.returns
unfolding settings_read
returns c =
    record { answer = simp (← c.locate-found.ensures.answer) }
