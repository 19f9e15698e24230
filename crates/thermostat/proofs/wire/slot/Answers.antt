-- The line, and the probe that has heard it.
use Rattle.thermostat.specs.Slot.{probe_slotted}
use borrow.Author.Rules.{rules}
use Rattle.thermostat.proofs.wire.slot.Goals as goal

pub returns : goal.returns
unfolding probe_slotted
returns c = record { answer = search rules }
