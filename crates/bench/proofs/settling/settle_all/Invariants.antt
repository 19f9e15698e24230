-- The loop's invariant: the devices passed are settled, and all others as they were; a quiet one is settled as it
-- stands.
use Rattle.std.proofs.Common.{◌≡◌}
use Rattle.basic_laws.specs.Front.{map_front}
use Rattle.bench.specs.Settling.{settled_of}
use Rattle.bench.proofs.settling.settle_all.Given as goal

abbrev pub invariant-loop-d : goal.invariant-loop-d
invariant-loop-d l = l.d-items ≡ map_front (settled_of l.place l.bit) l.d-index l.initial.d-items
