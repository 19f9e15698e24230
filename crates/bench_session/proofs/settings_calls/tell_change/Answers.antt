-- The line as it is laid, and it is short.
use mathlib.Core.Path.{refl}
use Rattle.bench_answers.specs.SettingsLinesLaws.{change-short}
use borrow.Author.Rules.{rules}
use Rattle.bench_session.proofs.settings_calls.tell_change.Goals as goal

pub returns : goal.returns
returns c =
    let done = c.args.done in
    let laid = c.change_line.ensures in
    record {
      answer = laid.answer;
      left = laid.written;
      short = change-short done.refusal done.version (search rules) (search rules);
      store = refl;
    }
