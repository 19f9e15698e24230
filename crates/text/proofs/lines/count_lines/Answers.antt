use native.Mathlib.Omega.{arith}
use Rattle.text.specs.LinesLaws.{line-ends, count-on, count-end}
use Rattle.text.proofs.lines.count_lines.Goals as goal

pub loop-at-preserved : goal.loop-at-preserved
loop-at-preserved c =
    let s = c.args.s.now in
    let ends = line-ends s c.loop-at.at c.loop-at-test.true in
    let next = c.line_behind-at.ensures.answer in
    let on = ends.0 in
    let most = ends.1 in
    let few = c.loop-at.invariant.1 in (
      omega arith,
      omega arith,
      count-on s c.loop-at.at c.line_behind-at.result c.loop-at.count
          c.loop-at-test.true next c.loop-at.invariant.2,
    )

pub returns : goal.returns
returns c =
    record {
      answer = count-end c.args.s.now c.loop-at.at c.loop-at.count
          c.loop-at-test.false c.loop-at.invariant.2;
    }
