-- The line as it is laid, and it is short.
use mathlib.Core.Path.{refl}
use Rattle.bench_answers.specs.AnswersLaws.{refusal-short}
use borrow.Author.Rules.{rules}
use Rattle.bench_session.proofs.settings_calls.tell_refusal.Goals as goal

pub returns : goal.returns
returns c =
    let done = c.args.done in
    record {
      answer = c.refusal_line.ensures.answer;
      left = c.refusal_line.ensures.written;
      short = refusal-short done.refusal (search rules);
      store = refl;
    }
