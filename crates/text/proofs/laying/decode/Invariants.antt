-- The loop's invariant: the first `i` of the bytes that the digits stand for are laid from place 0.
use mathlib.Core.Path.{◌≡◌}
use lib.ListN.{length, take}
use Rattle.basic_laws.specs.Laid.{laid}
use Rattle.text.specs.Digits.{bytes_of}
use Rattle.text.proofs.laying.decode.Given as goal

abbrev pub invariant-loop-i : goal.invariant-loop-i
invariant-loop-i l =
    (length l.out ≡ length l.initial.out) × (l.out ≡ laid l.initial.out 0 (take l.i (bytes_of l.s)))
