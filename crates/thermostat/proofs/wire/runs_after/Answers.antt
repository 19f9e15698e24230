-- One return for each command that starts or stops, by the key of the match, and one for all other bytes.
use Rattle.thermostat.specs.Slot.{runs_after}
use borrow.Author.Rules.{rules}
use Rattle.thermostat.proofs.wire.runs_after.Goals as goal

pub returns-in-238 : goal.returns-in-238
unfolding runs_after
returns-in-238 c = record { answer = search rules }

pub returns-in-34 : goal.returns-in-34
unfolding runs_after
returns-in-34 c = record { answer = search rules }

pub returns-in_default : goal.returns-in_default
unfolding runs_after
returns-in_default c = record { answer = search rules }
