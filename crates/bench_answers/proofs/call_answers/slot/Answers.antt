-- The line as it is laid, and it is short.
use mathlib.Core.Path.{ap, ◌∙◌}
use Rattle.bench_answers.specs.Answers.{bit_line}
use Rattle.bench_answers.specs.AnswersLaws.{bit-short}
use Rattle.bench_answers.specs.SaidLaws.{said-so, said-short}
use Rattle.bench_answers.specs.declared.call_answers.Said.{Said}
use borrow.Author.Rules.{rules}
use Rattle.bench_answers.proofs.call_answers.slot.Goals as goal

pub returns : goal.returns
returns c =
    let count = ap (λ (s : Said). s.count) c.say.ensures.answer in
    let short = bit-short c.args.done.refusal c.args.done.line (search rules) in
    let answer = c.bit_line-w.ensures.answer in
    let said = said-so c.args.out.now (bit_line c.args.done.refusal c.args.done.line)
    c.bit_line-w.result c.args.done.bench answer in record {
      answer = c.say.ensures.answer ∙ said;
      written = c.bit_line-w.ensures.written;
      fits = rw count (said-short c.args.out.now (bit_line c.args.done.refusal c.args.done.line)
          c.bit_line-w.result c.args.done.bench answer short);
    }
