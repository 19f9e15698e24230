-- The line as it is laid, and it is short.
use mathlib.Core.Path.{ap, ◌∙◌}
use native.Mathlib.Omega.{arith}
use Rattle.bench_answers.specs.AccessLine.{access_line}
use Rattle.bench_answers.specs.SaidLaws.{said-so}
use Rattle.bench_answers.specs.declared.call_answers.Said.{Said}
use Rattle.bench_answers.proofs.call_answers.access.Goals as goal

pub returns : goal.returns
returns c =
    let count = ap (λ (s : Said). s.count) c.say.ensures.answer in
    let d = c.args.done in
    let laid = c.access_line-w.ensures in
    let short = laid.fits in record {
      answer = c.say.ensures.answer ∙ said-so c.args.out.now (access_line d.refusal d.pad d.reading d.fine)
          c.access_line-w.result d.bench laid.answer;
      written = laid.written;
      fits = omega arith;
    }
