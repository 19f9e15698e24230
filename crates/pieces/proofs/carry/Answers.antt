-- The characters are no more than there are and than the line has room for, and stand at its front.
use Prim.Native.Nat.{◌+◌, ◌-◌, ◌≤◌, min}
use mathlib.Core.Path.{◌≡◌, ◌∙◌}
use native.Mathlib.Omega.{arith}
use lib.ListN.{length, take, drop, replicate, length-take, length-drop}
use Rattle.pieces.specs.Carried.{carried_in, most_carried}
use Rattle.pieces.specs.CarriedLaws.{laid-taken, take-least}
use Rattle.pieces.proofs.carry.Goals as goal

pub returns : goal.returns
unfolding carried_in
returns c =
    record {
      answer = let from = c.args.from in
          let s = c.args.s.now in
          let x = drop from s in
          let size = length-drop from s in
          let inner = c.least.ensures in
          let count : from + c.least-2.result - from ≡ min (min c.args.most most_carried) (length x) =
          omega (arith, c.least-2.ensures) in
          let part = take (from + c.least-2.result - from) x in
          let room : length part ≤ 257 = simp length-take (omega arith) in
          let taken = laid-taken (replicate 257 0) part room c.lay-laid.result c.lay-laid.new.out c.lay-laid.ensures.answer
          c.lay-laid.ensures.written in
          taken.1 ∙ rw count (take-least (min c.args.most most_carried) x);
    }
