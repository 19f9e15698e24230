use Rattle.std.proofs.Common.{arith}
use Rattle.bench_answers.specs.FoundLaws.{codes-begun, codes-turn, codes-end}
use Rattle.bench_answers.proofs.search_answers.put_codes.Goals as goal

pub loop-code-init : goal.loop-code-init
loop-code-init c =
    (omega arith, codes-begun c.args.out.now c.args.at c.args.codes.now)

pub loop-code-preserved : goal.loop-code-preserved
loop-code-preserved c =
    let l = c.loop-code in
    codes-turn c.args.out.now c.args.at c.args.codes.now c.requires l.code-index l.to l.out c.code_line-to.new.out
    c.code_line-to.result c.loop-code-test.true l.invariant.0 l.invariant.1 c.code_line-to.ensures.answer
    c.code_line-to.ensures.written

pub returns : goal.returns
returns c =
    let l = c.loop-code in
    let all = codes-end c.args.out.now c.args.at c.args.codes.now c.requires l.code-index l.to l.out
    c.loop-code-test.false l.auto.code-index-end l.invariant.0 l.invariant.1 in
    record { answer = all.0; written = all.1 }
