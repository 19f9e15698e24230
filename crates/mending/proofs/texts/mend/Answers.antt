-- Each end of the call is a case of its definition.
use Rattle.std.proofs.Common.{ℕ, ◌≤◌, false, List, length, ap, ◌∙◌, arith}
use Rattle.basic_laws.specs.Places.{part-all}
use Rattle.text.specs.Lines.{lines_of}
use Rattle.text.specs.Laying.{lay_leaves}
use Rattle.mending.specs.Mending.{mended_bytes}
use Rattle.mending.specs.Claims.{report_said}
use Rattle.mending.proofs.Laws.{text-done, text-open}
use Rattle.mending.proofs.texts.mend.Goals as goal

pub returns-then-s-next : goal.returns-then-s-next
returns-then-s-next c =
    let a = c.args in
    let places : length (lines_of a.s.now) ≤ length a.report.now = let count = c.count_lines-lines.ensures.answer in
    let test = c.if-report-lines.false in omega arith in
    let e = text-done a.s.now a.out.now a.report.now c.if-out-s.false places c.mend_whole-done.result
    c.mend_whole-done.ensures.answer c.if-s-next.true
    c.count_lines-lines.result c.count_lines-lines.ensures.answer c.mend_whole-done.new.out c.mend_whole-done.new.report
    c.mend_whole-done.ensures.written c.mend_whole-done.ensures.reported in
    record { answer = e.0; written = e.1.0; reported = e.1.1 }

pub returns : goal.returns
returns c =
    let a = c.args in
    let s = a.s.now in
    let p = c.mend_whole-done.result in
    let places : length (lines_of s) ≤ length a.report.now = let count = c.count_lines-lines.ensures.answer in let test =
    c.if-report-lines.false in omega arith in
    let last = part-all s p.next in
    let text = c.mend_last.ensures.written ∙ ap (λ (cs : List ℕ). lay_leaves c.mend_whole-done.new.out p.written
    (mended_bytes record { chars = cs; fed = false })) last in
    let noted = c.mend_last.ensures.reported ∙ ap
    (λ (cs : List ℕ). lay_leaves c.mend_whole-done.new.report p.lines
    (report_said record { chars = cs; fed = false })) last in
    let e = text-open s a.out.now a.report.now c.if-out-s.false places p c.mend_whole-done.ensures.answer
    c.if-s-next.false
    c.count_lines-lines.result c.count_lines-lines.ensures.answer c.mend_whole-done.new.out c.mend_last.new.out
    c.mend_whole-done.new.report c.mend_last.new.report
    c.mend_whole-done.ensures.written c.mend_whole-done.ensures.reported text noted in
    record { answer = e.0; written = e.1.0; reported = e.1.1 }
