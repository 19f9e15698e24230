-- By the test of the field.
use mathlib.Core.Path.{ap, ◌∙◌}
use Rattle.thermostat_session.specs.ProbeRequests.{degrees_asked}
use Rattle.thermostat_session.proofs.requests.finish.Goals as goal

pub returns-then-read : goal.returns-then-read
returns-then-read c =
    let read = c.degrees_in-read.ensures
    ∙ ap degrees_asked c.word.ensures.answer in rw (← read, c.if-read.true)

pub returns : goal.returns
returns c =
    let read = c.degrees_in-read.ensures
    ∙ ap degrees_asked c.word.ensures.answer in rw (← read, c.if-read.false)
