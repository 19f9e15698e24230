-- The loop's invariant: the digits of the first `i` bytes are laid, and the slice has its length. The measure is what
-- is left.
use Prim.Native.Nat.{◌≤◌, ◌-◌}
use mathlib.Core.Path.{◌≡◌}
use lib.ListN.{length, take}
use Rattle.basic_laws.specs.Laid.{laid}
use Rattle.text.specs.Digits.{hex_of}
use Rattle.text.proofs.laying.put_hex_bytes.Given as goal

abbrev pub invariant-loop-i : goal.invariant-loop-i
invariant-loop-i l =
    (l.i ≤ length l.bytes) × (length l.out ≡ length l.initial.out)
    × (l.out ≡ laid l.initial.out l.at (hex_of (take l.i l.bytes)))

abbrev pub decreases-loop-i : goal.decreases-loop-i
decreases-loop-i l =
    length l.bytes - l.i
