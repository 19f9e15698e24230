-- Refused without room; nothing for a line that was kept; else the line is short enough and is laid.
use Rattle.std.proofs.Common.{◌≡◌, sym, ap, ◌∙◌, arith}
use Rattle.text.specs.declared.laying.Written.{Written}
use Rattle.text.proofs.PuttingLaws.{line_refused}
use Rattle.mending.specs.Notice.{notice_of}
use Rattle.mending.specs.NoticeLaws.{notice-none}
use Rattle.mending.proofs.answers.notice.Goals as goal

pub returns-then-not-room : goal.returns-then-not-room
returns-then-not-room c =
    let a = c.args in
    let none = line_refused a.out.now 0 (notice_of a.number a.report) (sym c.has_room-room.ensures.answer
    ∙ c.if-not-room.true) in
    let answer = c.no_room.ensures.answer in
    let next : c.no_room.result.next ≡ 0 = ap (λ (w : Written). w.next) answer in
    record { answer = (answer ∙ none.0, omega arith); written = none.1 }

pub returns-then-report-eq0 : goal.returns-then-report-eq0
returns-then-report-eq0 c =
    let a = c.args in
    let none = notice-none a.out.now a.number a.report c.if-report-eq0.true (sym c.has_room-room.ensures.answer
    ∙ c.if-not-room.false) in
    let answer = c.behind.ensures.answer in
    let next : c.behind.result.next ≡ 0 = ap (λ (w : Written). w.next) answer in
    record { answer = (answer ∙ none.0, omega arith); written = none.1 }
