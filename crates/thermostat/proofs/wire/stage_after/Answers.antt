-- One return for each command that has a byte, by the key of the match, and one for all other bytes.
use Rattle.thermostat.specs.Slot.{stage_after}
use borrow.Author.Rules.{rules}
use Rattle.thermostat.proofs.wire.stage_after.Goals as goal

pub returns-in-170 : goal.returns-in-170
unfolding stage_after
returns-in-170 c = record { answer = search rules }

pub returns-in-1 : goal.returns-in-1
unfolding stage_after
returns-in-1 c = record { answer = search rules }

pub returns-in-2 : goal.returns-in-2
unfolding stage_after
returns-in-2 c = record { answer = search rules }

pub returns-in-161 : goal.returns-in-161
unfolding stage_after
returns-in-161 c = record { answer = search rules }

pub returns-in-162 : goal.returns-in-162
unfolding stage_after
returns-in-162 c = record { answer = search rules }

pub returns-in-12 : goal.returns-in-12
unfolding stage_after
returns-in-12 c = record { answer = search rules }

pub returns-in-172 : goal.returns-in-172
unfolding stage_after
returns-in-172 c = record { answer = search rules }

pub returns-in_default : goal.returns-in_default
unfolding stage_after
returns-in_default c = record { answer = search rules }
