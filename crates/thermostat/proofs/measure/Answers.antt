-- Each part is what its own function says.
use Rattle.thermostat.specs.Finish.{measured}
use borrow.Author.Rules.{rules}
use Rattle.thermostat.proofs.measure.Goals as goal

pub returns : goal.returns
unfolding measured
returns c = record { answer = search rules }
