-- With a configuration and without one; each byte goes to its own place.
use Rattle.device.specs.Settings.{with_settings}
use Rattle.device.proofs.with_settings.Goals as goal

pub returns-then-row : goal.returns-then-row
unfolding with_settings
returns-then-row c =
    record { answer = simp (c.if-row.true, c.kept_configuration.ensures.answer) }

pub returns : goal.returns
unfolding with_settings
returns c =
    record { answer = simp c.if-row.false }
