-- Refused without room; a line that is short enough is laid.
use lib.ListN.{length}
use mathlib.Core.Path.{◌≡◌, sym, ◌∙◌}
use Rattle.bench_answers.specs.Answers.{record_line}
use Rattle.bench_answers.specs.AnswersLaws.{record-short}
use Rattle.text.proofs.PuttingLaws.{line_refused, line-done}
use borrow.Author.Rules.{rules}
use Rattle.bench_answers.proofs.record_line.Goals as goal

pub returns-then-not-room : goal.returns-then-not-room
returns-then-not-room c =
    let a = c.args in
    let none = line_refused a.out.now a.at
    (record_line a.refusal a.pad a.eeprom a.alarm a.activity) (sym c.has_room-room.ensures.answer
    ∙ c.if-not-room.true) in
    record { answer = c.no_room.ensures.answer ∙ none.0; written = none.1 }

pub returns : goal.returns
returns c =
    let a = c.args in
    let long : length a.pad ≡ 8 = search (rules, c.well_formed.1.1.1.0) in
    let short = record-short a.refusal a.pad a.eeprom a.alarm a.activity (search rules) long in
    let done = line-done a.out.now a.at (record_line a.refusal a.pad a.eeprom a.alarm a.activity)
    (sym c.has_room-room.ensures.answer ∙ c.if-not-room.false) short
    _ _ c.put_record.ensures in
    record { answer = c.behind.ensures.answer ∙ done.0; written = done.1 }
