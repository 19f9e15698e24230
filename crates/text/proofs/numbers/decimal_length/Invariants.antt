-- The loop's invariant: the digits counted and those of what is left are one more than the number's, since the last
-- digit of all is counted from the start. The measure is what is left.
use Prim.Native.Nat.{◌+◌}
use mathlib.Core.Path.{◌≡◌}
use Rattle.text.specs.Decimal.{decimal_length}
use Rattle.text.proofs.numbers.decimal_length.Given as goal

abbrev pub invariant-loop-rest : goal.invariant-loop-rest
invariant-loop-rest l =
    l.count + decimal_length l.rest ≡ decimal_length l.number + 1

abbrev pub decreases-loop-rest : goal.decreases-loop-rest
decreases-loop-rest l =
    l.rest
