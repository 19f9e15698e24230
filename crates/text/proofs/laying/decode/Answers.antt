use lib.Seq.{take_all}
use Rattle.basic_laws.specs.LaidLaws.{laid_next, laid_none}
use Prim.Native.Nat.{◌+◌, ◌*◌, ◌≤◌, ◌<◌}
use mathlib.Core.Path.{◌≡◌, refl, ◌∙◌}
use native.Mathlib.Omega.{arith}
use lib.ListN.{length, length-set}
use Rattle.text.specs.Digits.{bytes_of}
use Rattle.text.specs.DigitsLaws.{bytes-half, bytes-at}
use Rattle.text.proofs.laying.decode.Goals as goal

pub loop-i-init : goal.loop-i-init
loop-i-init c =
    (refl, laid_none _ 0)

pub loop-i-preserved : goal.loop-i-preserved
loop-i-preserved c =
    let s = c.args.s.now in
    let i = c.loop-i.i in
    let size = bytes-half s in
    let within : i < length (bytes_of s) = omega arith in
    let place : i < length c.args.out.now = let room = c.requires.0 in omega arith in
    let pair : 2 * i + 1 < length s = omega arith in
    let front : 0 + i ≡ i = omega arith in (
      simp length-set c.loop-i.invariant.0,
      rw c.loop-i.invariant.1 (laid_next c.args.out.now 0 (bytes_of s) i i 0 c.byte_at.result front within place
          (c.byte_at.ensures ∙ bytes-at s i pair)),
    )

pub returns : goal.returns
returns c =
    let s = c.args.s.now in
    let size = bytes-half s in
    let all_laid : length (bytes_of s) ≤ c.loop-i.i = omega arith in
    c.loop-i.invariant.1 ∙ rw (take_all c.loop-i.i (bytes_of s) all_laid)
