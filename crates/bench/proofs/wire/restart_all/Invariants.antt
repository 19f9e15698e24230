-- The loop's invariant: the devices before the place are changed, and all others as they were.
use Rattle.std.proofs.Common.{◌≡◌}
use Rattle.basic_laws.specs.Front.{map_front}
use Rattle.device.specs.Power.{reset_of}
use Rattle.bench.proofs.wire.restart_all.Given as goal

abbrev pub invariant-loop-d : goal.invariant-loop-d
invariant-loop-d l = l.d-items ≡ map_front reset_of l.d-index l.initial.d-items
