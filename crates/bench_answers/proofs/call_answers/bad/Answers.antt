-- The line as it is laid, and it is short.
use mathlib.Core.Path.{ap, ◌∙◌}
use Rattle.bench_answers.specs.Answers.{bad_line}
use Rattle.bench_answers.specs.AnswersLaws.{bad-short}
use Rattle.bench_answers.specs.SaidLaws.{said-so, said-short}
use Rattle.bench_answers.specs.declared.call_answers.Said.{Said}
use Rattle.bench_answers.proofs.call_answers.bad.Goals as goal

pub returns : goal.returns
returns c =
    let count = ap (λ (s : Said). s.count) c.say.ensures.answer in
    let short = bad-short in
    let answer = c.bad_line-w.ensures.answer in
    let said = said-so c.args.out.now (bad_line) c.bad_line-w.result c.args.bench answer in record { answer = c.say.ensures.answer ∙ said; written = c.bad_line-w.ensures.written; fits = rw count (said-short c.args.out.now (bad_line) c.bad_line-w.result c.args.bench answer short) }
