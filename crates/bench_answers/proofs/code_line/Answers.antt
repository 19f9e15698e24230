-- Refused without room; a line that is short enough is laid.
use mathlib.Core.Path.{sym, ◌∙◌}
use Rattle.bench_answers.specs.Answers.{code_line}
use Rattle.bench_answers.specs.AnswersLaws.{code-short}
use Rattle.text.proofs.PuttingLaws.{line_refused, line-done, field_puts}
use Rattle.text.specs.Digits.{hex_digits}
use Rattle.bench_answers.proofs.code_line.Goals as goal

pub returns-then-not-room : goal.returns-then-not-room
returns-then-not-room c =
    let a = c.args in
    let none = line_refused a.out.now a.at (code_line a.code) (sym c.has_room-room.ensures.answer
    ∙ c.if-not-room.true) in
    record { answer = c.no_room.ensures.answer ∙ none.0; written = none.1 }

pub returns : goal.returns
unfolding code_line
returns c =
    let a = c.args in
    let short = code-short a.code in
    let done = line-done a.out.now a.at (code_line a.code) (sym c.has_room-room.ensures.answer
    ∙ c.if-not-room.false) short
    _ _ (field_puts a.out.now a.at (hex_digits 16 a.code) 0x0A c.put_digits.new.out
    c.put_digits.result (c.put_digits.ensures.answer, c.put_digits.ensures.written)) in
    record { answer = c.behind.ensures.answer ∙ done.0; written = done.1 }
