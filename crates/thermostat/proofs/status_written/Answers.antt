-- Each bit is that of the byte, and a flag is left by it.
use Rattle.thermostat.specs.Status.{status_written}
use borrow.Author.Rules.{rules}
use Rattle.thermostat.proofs.status_written.Goals as goal

pub returns : goal.returns
unfolding status_written
returns c = record { answer = search rules }
