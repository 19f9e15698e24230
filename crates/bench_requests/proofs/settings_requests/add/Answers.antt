-- By the tests of both fields.
use mathlib.Core.Path.{ap, ◌∙◌}
use Rattle.lines.specs.Fields.{code_in}
use Rattle.bench_requests.proofs.settings_requests.add.Goals as goal

pub returns-then-s : goal.returns-then-s
returns-then-s c =
    let code =
    c.code_in-code.ensures.answer
    ∙ ap code_in c.word.ensures.answer in let settings =
    c.settings_in-s.ensures.answer in rw (
      ← code,
      ← c.word-4.ensures.answer,
      ← c.word-3.ensures.answer,
      ← c.word-2.ensures.answer,
      ← settings,
      c.if-code.true,
      c.if-s.true,
    )

pub returns-else-s : goal.returns-else-s
returns-else-s c =
    let code =
    c.code_in-code.ensures.answer
    ∙ ap code_in c.word.ensures.answer in let settings =
    c.settings_in-s.ensures.answer in rw (
      ← code,
      ← c.word-4.ensures.answer,
      ← c.word-3.ensures.answer,
      ← c.word-2.ensures.answer,
      ← settings,
      c.if-code.true,
      c.if-s.false,
    )

pub returns-else-code : goal.returns-else-code
returns-else-code c =
    let code =
    c.code_in-code.ensures.answer
    ∙ ap code_in c.word.ensures.answer in let settings =
    c.settings_in-s.ensures.answer in rw (← code, c.if-code.false)
