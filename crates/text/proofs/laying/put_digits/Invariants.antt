-- The loop's invariant: with the digits that are left laid too, the slice is as it is to be.
use Rattle.std.proofs.Common.{◌≡◌, length}
use Rattle.basic_laws.specs.Laid.{laid}
use Rattle.text.specs.Digits.{digits}
use Rattle.text.proofs.laying.put_digits.Given as goal

abbrev pub invariant-loop-i : goal.invariant-loop-i
invariant-loop-i l =
    (length l.out ≡ length l.initial.out)
    × (laid l.out l.at (digits l.base l.i l.rest) ≡ laid l.initial.out l.at (digits l.base l.count l.number))
