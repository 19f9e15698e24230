-- By the tests of the three fields.
use mathlib.Core.Path.{ap, ◌∙◌}
use Rattle.lines.specs.Fields.{code_in, power_in}
use Rattle.bench_requests.proofs.calls.add.Goals as goal

pub returns-then-s : goal.returns-then-s
returns-then-s c =
    let code =
    c.code_in-code.ensures.answer ∙ ap code_in c.word.ensures.answer in let power =
    c.power_in-p.ensures.answer ∙ ap power_in c.word-2.ensures.answer in
    rw (
      ← code,
      ← power,
      ← c.word-5.ensures.answer,
      ← c.word-4.ensures.answer,
      ← c.word-3.ensures.answer,
      ← c.settings_in-s.ensures.answer,
      c.if-code.true,
      c.if-p.true,
      c.if-s.true,
    )

pub returns-else-s : goal.returns-else-s
returns-else-s c =
    let code =
    c.code_in-code.ensures.answer ∙ ap code_in c.word.ensures.answer in let power =
    c.power_in-p.ensures.answer ∙ ap power_in c.word-2.ensures.answer in
    rw (
      ← code,
      ← power,
      ← c.word-5.ensures.answer,
      ← c.word-4.ensures.answer,
      ← c.word-3.ensures.answer,
      ← c.settings_in-s.ensures.answer,
      c.if-code.true,
      c.if-p.true,
      c.if-s.false,
    )

pub returns-else-p : goal.returns-else-p
returns-else-p c =
    let code =
    c.code_in-code.ensures.answer ∙ ap code_in c.word.ensures.answer in let power =
    c.power_in-p.ensures.answer ∙ ap power_in c.word-2.ensures.answer in
    rw (← code, ← power, c.if-code.true, c.if-p.false)

pub returns-else-code : goal.returns-else-code
returns-else-code c =
    let code =
    c.code_in-code.ensures.answer ∙ ap code_in c.word.ensures.answer in let power =
    c.power_in-p.ensures.answer ∙ ap power_in c.word-2.ensures.answer in rw (← code, c.if-code.false)
