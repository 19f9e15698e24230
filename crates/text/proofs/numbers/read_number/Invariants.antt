-- The loop's invariant: the first `i` characters are digits, and make a number up to the bound. A character that is no
-- digit, or a digit that takes the number past the bound, ends the loop: digits behind it make no number smaller.
use Prim.Native.Nat.{◌≤◌}
use mathlib.Core.Path.{◌≡◌}
use lib.ListN.{take, drop}
use Rattle.text.specs.Digits.{spells, number_in}
use Rattle.text.proofs.numbers.read_number.Given as goal

abbrev pub invariant-loop-c : goal.invariant-loop-c
invariant-loop-c l =
    (l.number ≡ number_in l.base (take l.c-index l.s)) × (l.number ≤ l.bound) × (spells l.base (drop l.c-index l.s) ≡ spells l.base l.s)
