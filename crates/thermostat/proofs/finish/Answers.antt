-- Whether a conversion runs, then the range.
use Rattle.thermostat.specs.Finish.{finished}
use borrow.Author.Rules.{rules}
use Rattle.thermostat.proofs.finish.Goals as goal

pub returns-then-not-p : goal.returns-then-not-p
unfolding finished
returns-then-not-p c = record { answer = search rules }

pub returns-then-not-whole_in_range : goal.returns-then-not-whole_in_range
unfolding finished
returns-then-not-whole_in_range c = record { answer = search rules }

pub returns : goal.returns
unfolding finished
returns c = record { answer = search rules }
