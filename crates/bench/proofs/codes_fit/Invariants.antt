-- The loop's invariant: whether the codes fit is left to the devices from i on.
use Rattle.std.proofs.Common.{◌≡◌, drop}
use Rattle.bench.specs.Records.{codes_fit}
use Rattle.bench.proofs.codes_fit.Given as goal

abbrev pub invariant-loop-i : goal.invariant-loop-i
invariant-loop-i l = codes_fit (drop l.i l.devices) ≡ codes_fit l.devices
