-- Heard outside thermostat mode alone.
use Rattle.thermostat.specs.Slot.{probe_reset}
use borrow.Author.Rules.{rules}
use Rattle.thermostat.proofs.wire.reset.Goals as goal

pub returns-then-p : goal.returns-then-p
unfolding probe_reset
returns-then-p c = record { answer = search rules }

pub returns : goal.returns
unfolding probe_reset
returns c = record { answer = search rules }
