-- The line as it is laid, and it is short.
use mathlib.Core.Path.{refl}
use Rattle.bench_answers.specs.SettingsLinesLaws.{settings-fields-short}
use borrow.Author.Rules.{rules}
use Rattle.bench_session.proofs.settings_calls.tell_current.Goals as goal

pub returns : goal.returns
returns c =
    let current = c.args.current in
    let laid = c.current_line.ensures in
    let fields = current.settings in
    record {
      answer = laid.answer;
      left = laid.written;
      short = settings-fields-short current.refusal fields.high fields.low fields.configuration
          current.version (search rules) (search rules);
      store = refl;
    }
