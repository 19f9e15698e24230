-- By whether there was room.
use Rattle.std.proofs.Common.{eq-eqb, ne_eqb}
use Rattle.refusals.specs.Refusals.{accepted}
use Rattle.mending.proofs.reported.Goals as goal

pub returns-then-written-ne-ACCEPTED : goal.returns-then-written-ne-ACCEPTED
returns-then-written-ne-ACCEPTED c =
    rw (ne_eqb _ accepted c.if-written-ne-ACCEPTED.true)

pub returns : goal.returns
returns c =
    rw (eq-eqb _ accepted c.if-written-ne-ACCEPTED.false)
