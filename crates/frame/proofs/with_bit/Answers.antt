-- The bit's weight is taken out and put back in as asked.
use Prim.Native.Nat.{◌+◌, ◌*◌, ◌/◌, ◌%◌, ◌^◌, ◌≤◌}
use mathlib.Core.Path.{◌≡◌}
use mathlib.Core.Bool.{Bool, true, false}
use native.Mathlib.Omega.{arith}
use lib.Pow.{pow_mono}
use Rattle.basic_laws.specs.Bits.{bit_number}
use Rattle.frame.specs.Frames.{with_bit}
use Rattle.frame.specs.FramesLaws.{with-sum, with-lt}
use Rattle.frame.proofs.with_bit.Goals as goal
use Rattle.frame.proofs.with_bit.Goals.{Start}

-- the weight as the code has it, and what the law says of the sum
weight : (c : Start) → 1 * 2 ^ c.args.i % 256 ≡ 2 ^ c.args.i
weight c =
    let h : c.args.i ≤ 7 = omega arith in let k : 2 ^ c.args.i ≤ 128 = pow_mono h in omega arith

sum : (c : Start) (b : Bool) → with_bit c.args.byte c.args.i b + c.args.byte / 2 ^ c.args.i % 2 * 2 ^ c.args.i
    ≡ c.args.byte + bit_number b * 2 ^ c.args.i
sum c b =
    with-sum c.args.byte c.args.i b c.ranges.byte.fits c.requires

pub overflow_add-result : goal.overflow_add-result
overflow_add-result c =
    rw (weight (goal.at.overflow_add-result c).Start) (let e = sum (goal.at.overflow_add-result c).Start true in let h = with-lt c.args.byte c.args.i true in let o = sum (goal.at.overflow_add-result c).Start false in
    record { fits = omega arith })

pub returns-then-bit : goal.returns-then-bit
returns-then-bit c =
    rw (weight (goal.at.returns-then-bit c).Start, c.if-bit.true) (let e = sum (goal.at.returns-then-bit c).Start true in let o = sum (goal.at.returns-then-bit c).Start false in omega arith)

pub returns-else-bit : goal.returns-else-bit
returns-else-bit c =
    rw (weight (goal.at.returns-else-bit c).Start, c.if-bit.false) (let e = sum (goal.at.returns-else-bit c).Start false in omega arith)
