use Rattle.std.proofs.Common.{◌≡◌, ◌+◌, ◌-◌, ◌%◌, ◌<◌, suc, length, refl, ap, ◌∙◌, arith}
use native.Mathlib.Nat.{mod-lt, mod-eq_of_lt}
use lib.ListN.{length-set}
use Rattle.basic_laws.specs.Laid.{laid}
use Rattle.basic_laws.specs.LaidLaws.{laid_none}
use Rattle.text.specs.Digits.{digit_of, digits}
use Rattle.text.proofs.LayingLaws.{digits_last}
use Rattle.text.proofs.laying.put_digits.Goals as goal

pub loop-i-preserved : goal.loop-i-preserved
loop-i-preserved c =
    let base = c.args.base in
    let m = c.loop-i.i - 1 in
    let below = mod-lt c.loop-i.rest c.requires.0 in
    let small : c.loop-i.rest % base % 16 ≡ c.loop-i.rest % base = mod-eq_of_lt (omega (arith, c.requires.1)) in
    let place : c.args.at + m < length c.loop-i.out =
    omega (arith, c.requires.2, c.loop-i.auto.out, c.loop-i.auto.i, c.loop-i-test.true) in
    let one_more : suc m ≡ c.loop-i.i = omega (arith, c.loop-i-test.true) in
    let stored = digits_last c.loop-i.out c.args.at base m c.loop-i.rest c.digit.result (c.args.at + m)
    (c.digit.ensures.answer ∙ ap digit_of small) refl place in (
      simp length-set c.loop-i.invariant.0,
      stored ∙ ap (λ k. laid c.loop-i.out c.args.at (digits base k c.loop-i.rest)) one_more ∙ c.loop-i.invariant.1,
    )

pub returns : goal.returns
unfolding digits
returns c =
    let none : c.loop-i.i ≡ 0 = omega (arith, c.loop-i-test.false) in
    laid_none c.loop-i.out c.args.at ∙ rw none at c.loop-i.invariant.1
