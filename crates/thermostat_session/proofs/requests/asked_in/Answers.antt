-- Bit by bit.
use Rattle.thermostat_session.specs.ProbeRequests.{asked_in}
use Rattle.thermostat_session.proofs.requests.asked_in.Goals as goal

pub returns : goal.returns
unfolding asked_in
returns c =
    rw (
      c.both-2.ensures.answer,
      c.both.ensures.answer,
      c.bit_in-m.ensures.answer,
      c.bit_in-p.ensures.answer,
      c.bit_in-o.ensures.answer,
    )
