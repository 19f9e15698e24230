-- The first pass goes on from the reset that showed presence, so that it is the pass after a reset of the bench given.
-- The loop's invariant: after so many passes the list and the recording hold what they have found and shown.
use Rattle.search.specs.Sweep.{Sweeping}
use Rattle.search.proofs.sweep_wire.Given as goal

abbrev pub invariant-loop : goal.invariant-loop
invariant-loop l =
    Sweeping l.command l.fn.bench l.fn.list l.fn.recording l.counter l.s l.list l.recording
