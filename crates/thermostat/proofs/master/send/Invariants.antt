-- The loop's invariant says what is still to come: the bits that are left, sent to the probe as it stands, give the
-- answer.
use Prim.Native.Nat.{◌-◌}
use mathlib.Core.Path.{◌≡◌}
use Rattle.search_laws.specs.Reads.{after_bits}
use Rattle.thermostat.specs.Calls.{alone}
use Rattle.thermostat.proofs.master.send.Given as goal

abbrev pub invariant-loop : goal.invariant-loop
invariant-loop l =
    after_bits alone (8 - l.counter) l.left l.p ≡ after_bits alone 8 l.byte l.initial.p
