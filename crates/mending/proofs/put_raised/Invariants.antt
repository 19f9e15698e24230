-- The loop's invariant: the first `i` characters are laid from place 0, raised.
use Rattle.std.proofs.Common.{◌≡◌, map, length, take}
use Rattle.basic_laws.specs.Laid.{laid}
use Rattle.mending.specs.Mending.{raised}
use Rattle.mending.proofs.put_raised.Given as goal

abbrev pub invariant-loop-i : goal.invariant-loop-i
invariant-loop-i l = record {
  size : length l.out ≡ length l.initial.out;
  text : l.out ≡ laid l.initial.out 0 (take l.i (map raised l.line));
}
