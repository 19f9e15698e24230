use native.Mathlib.Omega.{arith}
use Rattle.text.specs.DecimalLaws.{length-small, length-tenth, decimal-most}
use borrow.Author.Rules.{rules}
use Rattle.text.proofs.numbers.decimal_length.Goals as goal

pub overflow_add-count : goal.overflow_add-count
overflow_add-count c =
    let n = c.args.number in
    let most = decimal-most n 19 (omega (arith, c.ranges.number.fits)) in
    let counted = c.loop-rest.invariant in
    search (rules, most, counted)

pub loop-rest-preserved : goal.loop-rest-preserved
loop-rest-preserved c =
    let tenth = length-tenth c.loop-rest.rest c.loop-rest-test.true in
    let counted = c.loop-rest.invariant in
    omega arith

pub returns : goal.returns
returns c =
    record {
      answer = let last = length-small c.loop-rest.rest c.loop-rest-test.false in
          let counted = c.loop-rest.invariant in
          omega arith;
    }
