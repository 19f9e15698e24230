-- The loop's invariant: so many read slots have been made, and the register holds the number that they showed in as
-- many upper bits. `shifted-on` puts in the next bit.
use Rattle.std.proofs.Common.{◌≡◌, ◌-◌, ◌*◌, ◌^◌}
use Rattle.basic_laws.specs.Bits.{number_of}
use Rattle.master_rules.specs.Access.{after_slots}
use Rattle.search_laws.specs.Reads.{bits_shown}
use Rattle.master_rules.specs.Buses.{calls}
use Rattle.at_code.proofs.read_byte.Given as goal

abbrev pub invariant-loop : goal.invariant-loop
invariant-loop l = record {
  bench_is : l.b ≡ after_slots l.counter l.initial.b;
  byte_is : l.byte ≡ number_of (bits_shown calls l.counter l.initial.b) * 2 ^ (8 - l.counter);
}
