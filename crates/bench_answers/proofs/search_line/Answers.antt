-- Refused without room; a line that is short enough is laid.
use mathlib.Core.Path.{sym, ◌∙◌}
use Rattle.bench_answers.specs.Answers.{search_line}
use Rattle.bench_answers.specs.AnswersLaws.{search-short}
use Rattle.text.proofs.PuttingLaws.{line_refused, line-done}
use borrow.Author.Rules.{rules}
use Rattle.bench_answers.proofs.search_line.Goals as goal

pub returns-then-not-room : goal.returns-then-not-room
returns-then-not-room c =
    let a = c.args in
    let none = line_refused a.out.now a.at
    (search_line a.refusal a.codes a.passes a.slots a.bytes) (sym c.has_room-room.ensures.answer
    ∙ c.if-not-room.true) in
    record { answer = c.no_room.ensures.answer ∙ none.0; written = none.1 }

pub returns : goal.returns
returns c =
    let a = c.args in
    let short = search-short a.refusal a.codes a.passes a.slots a.bytes (search rules) (search rules)
    (search rules) (search rules) (search rules) in
    let done = line-done a.out.now a.at (search_line a.refusal a.codes a.passes a.slots a.bytes)
    (sym c.has_room-room.ensures.answer ∙ c.if-not-room.false) short
    _ _ c.put_counts.ensures in
    record { answer = c.behind.ensures.answer ∙ done.0; written = done.1 }
