-- The loop's invariant: so many read slots have been made, and the register holds the number that they showed in
-- as many of its upper bits. `shifted-on` puts in the next bit.
use Prim.Native.Nat.{◌-◌, ◌*◌, ◌^◌}
use mathlib.Core.Path.{◌≡◌}
use Rattle.basic_laws.specs.Bits.{number_of}
use Rattle.search_laws.specs.Reads.{bits_shown, after_reads}
use Rattle.thermostat.specs.Calls.{alone}
use Rattle.thermostat.proofs.master.read_byte.Given as goal

abbrev pub invariant-loop : goal.invariant-loop
invariant-loop l = record {
  after : l.p ≡ after_reads alone l.counter l.initial.p;
  shown : l.byte ≡ number_of (bits_shown alone l.counter l.initial.p) * 2 ^ (8 - l.counter);
}
