-- The characters are those at the front of the line, which has no more than that.
use Prim.Native.Nat.{min}
use mathlib.Core.Path.{◌≡◌}
use native.Mathlib.Omega.{arith}
use lib.ListN.{length, take, length-take}
use Rattle.pieces.specs.Carried.{carried_in}
use Rattle.pieces.specs.CarriedLaws.{take-least}
use borrow.Author.Rules.{rules}
use Rattle.pieces.proofs.put_back.Goals as goal
use Rattle.pieces.proofs.put_back.Goals.{Start}

long : (c : Start) → length c.args.carried.line ≡ 257
long c =
    search rules

pub returns : goal.returns
unfolding carried_in
returns c =
    let line = c.args.carried.line in
    let n = long (goal.at.returns c).Start in
    let count : c.least-count.result ≡ min c.args.carried.count (length line) = rw n c.least-count.ensures in
    let same : take c.least-count.result line ≡ take c.args.carried.count line =
    rw count (take-least c.args.carried.count line) in
    let few = length-take c.args.carried.count line in
    record { answer = rw (← same) c.lay.ensures.answer; written = rw (← same) c.lay.ensures.written; few = omega arith }
