-- With a configuration and without one.
use Rattle.device.specs.Settings.{settings_in}
use Rattle.device.proofs.settings_in.Goals as goal

pub returns-then-row : goal.returns-then-row
unfolding settings_in
returns-then-row c =
    record { answer = simp c.if-row.true }

pub returns : goal.returns
unfolding settings_in
returns c =
    record { answer = simp c.if-row.false }
