use Prim.Native.Nat.{◌<◌}
use mathlib.Core.Path.{◌≡◌, refl, sym, ◌∙◌}
use mathlib.Core.Bool.{true}
use native.Mathlib.Omega.{arith}
use lib.ListN.{length}
use lib.Seq.{take-length}
use Rattle.basic_laws.specs.Fold.{fold}
use Rattle.basic_laws.specs.FoldLaws.{all_past}
use Rattle.text.specs.Digits.{is_digit, spells, number_in}
use Rattle.text.specs.DigitsLaws.{number-next}
use Rattle.text.specs.NumbersLaws.{turn-other, turn-digit, turn-past, digit-fits, digit-exceeds, read_number}
use Rattle.text.specs.NumbersLaws.{read-other, read_past}
use Rattle.text.proofs.numbers.read_number.Goals as goal

pub loop-c-init : goal.loop-c-init
unfolding number_in fold
loop-c-init c =
    (refl, omega arith, refl)

pub returns-then-base-v : goal.returns-then-base-v
returns-then-base-v c =
    record {
      answer = let within = c.loop-c-test.true in
          let no_digit = turn-other c.args.base c.args.bound c.args.s.now c.loop-c.c-index within
          (rw c.value-v.ensures.answer at c.if-base-v.true) in
          c.no_number.ensures ∙ read-other c.args.base c.args.bound c.args.s.now (sym c.loop-c.invariant.2
          ∙ no_digit);
    }

pub returns-then-bound-d : goal.returns-then-bound-d
returns-then-bound-d c =
    record {
      answer = let within = c.loop-c-test.true in
          let is_digit = c.if-base-v.false in
          let digit-past = c.if-bound-d.true in
          let value-is = c.value-v.ensures.answer in
          let past = turn-past c.args.base c.args.bound c.args.s.now c.loop-c.c-index within (omega arith)
          (omega arith) in
          c.no_number-then-bound-d.ensures ∙ read_past c.args.base c.args.bound c.args.s.now past;
    }

pub returns-then-bound-d-2 : goal.returns-then-bound-d-2
returns-then-bound-d-2 c =
    record {
      answer = let within = c.loop-c-test.true in
          let is_digit = c.if-base-v.false in
          let digit-small = c.if-bound-d.false in
          let some : 0 < c.args.base = omega arith in
          let exceeds = digit-exceeds c.args.base c.loop-c.number c.value-v.result c.args.bound some digit-small
          c.if-bound-d-2.true in
          let past = turn-past c.args.base c.args.bound c.args.s.now c.loop-c.c-index within some
          (rw (c.loop-c.invariant.0, c.value-v.ensures.answer) at exceeds) in
          c.no_number-then-bound-d-2.ensures ∙ read_past c.args.base c.args.bound c.args.s.now past;
    }

pub loop-c-preserved : goal.loop-c-preserved
loop-c-preserved c =
    let some : 0 < c.args.base = let is_digit = c.if-base-v.false in omega arith in
    let fits = digit-fits c.args.base c.loop-c.number c.value-v.result c.args.bound some
    c.if-bound-d.false c.if-bound-d-2.false in
    let within = c.loop-c-test.true in
    let digit = turn-digit c.args.base c.args.bound c.args.s.now c.loop-c.c-index within
    (rw c.value-v.ensures.answer at c.if-base-v.false) in (
      rw (c.loop-c.invariant.0, c.value-v.ensures.answer)
          (number-next c.args.base c.args.s.now c.loop-c.c-index within),
      fits,
      sym digit ∙ c.loop-c.invariant.2,
    )

pub returns : goal.returns
returns c =
    record {
      answer = let s = c.args.s.now in
          let end : c.loop-c.c-index ≡ length s = omega arith in
          let number_is : c.loop-c.number ≡ number_in c.args.base s = c.loop-c.invariant.0 ∙ rw (end, take-length) in
          let spelt : spells c.args.base s ≡ true =
          sym c.loop-c.invariant.2 ∙ all_past (is_digit c.args.base) s c.loop-c.c-index c.loop-c-test.false in
          rw number_is (read_number c.args.base c.args.bound s spelt (rw number_is at c.loop-c.invariant.1));
    }
