-- The same number, of degrees, which is held as it is.
use Rattle.basic_laws.proofs.ComplementLaws.{held_back}
use Rattle.thermostat_session.specs.ProbeRequests.{degrees_asked}
use borrow.Author.Rules.{rules}
use Rattle.thermostat_session.proofs.requests.degrees_in.Goals as goal

pub returns : goal.returns
unfolding degrees_asked
returns c =
    let read = c.count_in-read in
    let held = held_back read.result.count.0 (record { sfits = search rules }) in
    rw (held, read.ensures.answer)
