-- By both tests.
use Rattle.thermostat_session.specs.ProbeRequests.{limit_in}
use Rattle.thermostat_session.proofs.requests.limit_in.Goals as goal

pub returns : goal.returns
unfolding limit_in
returns c =
    rw (
      c.both.ensures.answer,
      c.limit_byte_of-limit.ensures.answer,
      c.degrees_in-read.ensures,
    )
