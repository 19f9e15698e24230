-- What the call answers, and the probe after it.
use Rattle.thermostat_session.proofs.read.Goals as goal

pub returns : goal.returns
returns c =
    rw (c.say.ensures, c.read_status-done.ensures.answer)
