-- Each end of the call is a case of its definition.
use Rattle.std.proofs.Common.{◌≤◌, length, ◌∙◌, arith}
use Rattle.text.specs.Lines.{lines_of}
use Rattle.mending.proofs.Laws.{piece-done}
use Rattle.mending.proofs.texts.feed.Goals as goal

pub returns : goal.returns
returns c =
    let a = c.args in
    let s = a.s.now in
    let out = a.out.now in
    let report = a.report.now in
    let places : length (lines_of s) ≤ length report = let count = c.count_lines-lines.ensures.answer in let test =
    c.if-report-lines.false in omega arith in
    let d = piece-done s out report
    c.if-out-s.false places
    c.mend_whole-done.result c.mend_whole-done.ensures.answer c.carry-carried.result c.carry-carried.ensures.answer in
    record { answer = d.0; written = c.mend_whole-done.ensures.written ∙ d.1.0; reported = c.mend_whole-done.ensures.reported ∙ d.1.1 }
