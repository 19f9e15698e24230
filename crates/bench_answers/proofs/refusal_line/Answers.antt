-- Refused without room; a line that is short enough is laid.
use mathlib.Core.Path.{sym, ◌∙◌}
use Rattle.bench_answers.specs.Answers.{refusal_line}
use Rattle.bench_answers.specs.AnswersLaws.{refusal-short}
use Rattle.text.proofs.PuttingLaws.{line_refused, line-done, field_puts}
use Rattle.text.specs.Decimal.{decimal}
use borrow.Author.Rules.{rules}
use Rattle.bench_answers.proofs.refusal_line.Goals as goal

pub returns-then-not-room : goal.returns-then-not-room
returns-then-not-room c =
    let a = c.args in
    let none = line_refused a.out.now a.at (refusal_line a.refusal) (sym c.has_room-room.ensures.answer
    ∙ c.if-not-room.true) in
    record { answer = c.no_room.ensures.answer ∙ none.0; written = none.1 }

pub returns : goal.returns
unfolding refusal_line
returns c =
    let a = c.args in
    let short = refusal-short a.refusal (search rules) in
    let done = line-done a.out.now a.at (refusal_line a.refusal) (sym c.has_room-room.ensures.answer
    ∙ c.if-not-room.false) short
    _ _ (field_puts a.out.now a.at (decimal a.refusal) 0x0A c.put_number.new.out
    c.put_number.result (c.put_number.ensures.answer, c.put_number.ensures.written)) in
    record { answer = c.behind.ensures.answer ∙ done.0; written = done.1 }
