-- Where the reset shows presence the command is sent and the byte read; else the answer is 4.
use Rattle.thermostat.specs.Calls.{status_read}
use borrow.Author.Rules.{rules}
use Rattle.thermostat.proofs.master.read_status.Goals as goal

pub returns-then-r : goal.returns-then-r
unfolding status_read
returns-then-r c = record { answer = search rules }

pub returns : goal.returns
unfolding status_read
returns c = record { answer = search rules }
