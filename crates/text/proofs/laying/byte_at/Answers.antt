-- Both characters are digits, so the sum is below 256.
use Prim.Native.Nat.{ℕ, ◌+◌, ◌<◌}
use borrow.Author.Tests.{ltb-true}
use native.Mathlib.Omega.{arith}
use lib.ListN.{length, get_or}
use Rattle.basic_laws.specs.FoldLaws.{all-at}
use Rattle.text.specs.Digits.{value_of, is_digit}
use Rattle.text.proofs.laying.byte_at.Goals as goal
use Rattle.text.proofs.laying.byte_at.Goals.{Start}

-- the value at a place is below 16
small : (c : Start) (i : ℕ) → i < length c.args.s.now → value_of (get_or c.args.s.now i 0) < 16
small c i h =
    ltb-true (value_of (get_or c.args.s.now i 0)) 16
    (all-at (is_digit 16) c.args.s.now 0 i h c.requires.1)

pub overflow_mul-result : goal.overflow_mul-result
overflow_mul-result c =
    let h = small (goal.at.overflow_mul-result c).Start c.args.at (omega arith) in
    let l = small (goal.at.overflow_mul-result c).Start (c.args.at + 1) (omega arith) in
    omega arith

pub overflow_add-result : goal.overflow_add-result
overflow_add-result c =
    let h = small (goal.at.overflow_add-result c).Start c.args.at (omega arith) in
    let l = small (goal.at.overflow_add-result c).Start (c.args.at + 1) (omega arith) in
    omega arith
