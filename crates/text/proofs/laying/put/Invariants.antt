-- The loop's invariant: the first `i` characters are laid.
use Rattle.std.proofs.Common.{◌≡◌, length, take}
use Rattle.basic_laws.specs.Laid.{laid}
use Rattle.text.proofs.laying.put.Given as goal

abbrev pub invariant-loop-i : goal.invariant-loop-i
invariant-loop-i l = record {
  size : length l.out ≡ length l.initial.out;
  text : l.out ≡ laid l.initial.out l.at (take l.i l.text);
}
