-- The line as it is laid, and it is short.
use mathlib.Core.Path.{◌≡◌, ap, ◌∙◌}
use lib.ListN.{length}
use Rattle.bench_answers.specs.Answers.{show_line}
use Rattle.bench_answers.specs.AnswersLaws.{show-short}
use Rattle.bench_answers.specs.SaidLaws.{said-so, said-short}
use Rattle.bench_answers.specs.declared.call_answers.Said.{Said}
use borrow.Author.Rules.{rules}
use Rattle.bench_answers.proofs.call_answers.device.Goals as goal

pub returns : goal.returns
returns c =
    let count = ap (λ (s : Said). s.count) c.say.ensures.answer in
    let long : length c.args.looked.device.scratchpad ≡ 8 =
    search rules in
    let short = show-short c.args.looked (search rules) long in
    let answer = c.show_line-w.ensures.answer in
    let said = said-so c.args.out.now (show_line c.args.looked) c.show_line-w.result c.args.bench
    answer in record {
      answer = c.say.ensures.answer ∙ said;
      written = c.show_line-w.ensures.written;
      fits = rw count (said-short c.args.out.now (show_line c.args.looked) c.show_line-w.result
          c.args.bench answer short);
    }
