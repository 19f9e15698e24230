-- The record of a power-up, part by part.
use Rattle.thermostat.specs.Power.{probe_powered_up}
use borrow.Author.Rules.{rules}
use Rattle.thermostat.proofs.start.Goals as goal

pub returns : goal.returns
unfolding probe_powered_up
returns c = record { answer = search rules }
