-- The characters, mended, are read; they are dropped or written by what the reader says.
use Rattle.std.proofs.Common.{◌≡◌, ℕ, ◌+◌, ◌<◌, true, eqb, List, [], ◌∷◌, ◌++◌, length, take, set, sym, refl, ap, ◌∙◌, add-one, arith, length-set, length-take-le, take-suc-set}
use Rattle.std.specs.Prelude.{if◌then◌else◌}
use Rattle.text.specs.Lines.{Line, line_feed}
use Rattle.text.specs.Laying.{lay_answer, lay_leaves}
use Rattle.frame.specs.declared.frame_lines.LineRead.{LineRead}
use Rattle.frame.specs.ReadLine.{read_line}
use Rattle.mending.specs.Mending.{mended_chars, altered_by, line_refusal, mended_line, reported}
use Rattle.mending.specs.LineLaws.{answer-refusal, refusal-small, fate-dropped, line-dropped, line-written}
use Rattle.mending.proofs.mend_fed.Goals as goal
use Rattle.mending.proofs.mend_fed.Goals.{After-mend_chars-repair, After-read_line-read}

-- a line with its feed
abbrev given : List ℕ → Line
given chars = record { chars = chars; fed = true }

-- the reader's refusal is that of the line, mended
refusal : (c : After-read_line-read) → c.read_line-read.result.refusal
    ≡ line_refusal (mended_line (given c.args.line.now))
refusal c =
    let m = c.mend_chars-repair in
    ap (λ (r : LineRead). r.refusal) c.read_line-read.ensures.answer
    ∙ answer-refusal (read_line record { chars = take m.result.end m.result.chars; fed = true }) 0
    ∙ ap (λ (cs : List ℕ). line_refusal record { chars = cs; fed = true }) m.ensures.front

-- the text that is laid: the characters and the feed
text : (c : After-mend_chars-repair) → let m = c.mend_chars-repair.result in
    take (m.end + 1) (set m.chars m.end line_feed)
    ≡ mended_chars c.args.line.now ++ (line_feed ∷ [])
text c =
    let m = c.mend_chars-repair in
    let few = m.ensures.few in
    let room = m.ensures.room in
    let place : m.result.end < length m.result.chars = omega arith in
    rw (add-one m.result.end) (take-suc-set m.result.chars m.result.end line_feed place)
    ∙ ap (λ (cs : List ℕ). cs ++ (line_feed ∷ [])) m.ensures.front

pub slice_bounds-chars-end : goal.slice_bounds-chars-end
slice_bounds-chars-end c =
    let m = c.mend_chars-repair.ensures in let few = m.few in let room = m.room in
    omega arith

pub slice_bounds-read_line-end : goal.slice_bounds-read_line-end
slice_bounds-read_line-end c =
    let m = c.mend_chars-repair in
    let few = m.ensures.few in
    let room = m.ensures.room in
    sym (length-take-le m.result.end m.result.chars (omega arith))

pub drop_line-requires : goal.drop_line-requires
drop_line-requires c =
    let same = refusal (goal.at.drop_line-requires c).After-read_line-read in
    let small = refusal-small (mended_line (given c.args.line.now)) in
    omega arith

pub returns-then-read-ne-ACCEPTED : goal.returns-then-read-ne-ACCEPTED
returns-then-read-ne-ACCEPTED c =
    let n = c.read_line-read.result.refusal in
    let o = fate-dropped (given c.args.line.now) c.requires refl n (sym (refusal (goal.at.returns-then-read-ne-ACCEPTED c).After-read_line-read)) c.if-read-ne-ACCEPTED.true in
    let e = line-dropped (given c.args.line.now) c.args.out.now c.args.at n o in
    record { answer = c.drop_line.ensures.answer ∙ e.0; written = c.drop_line.ensures.written ∙ e.1 }

pub bounds-chars-end : goal.bounds-chars-end
bounds-chars-end c =
    let m = c.mend_chars-repair.ensures in let few = m.few in
    omega arith

pub overflow_add-next : goal.overflow_add-next
overflow_add-next c =
    let m = c.mend_chars-repair.ensures in let few = m.few in omega arith

pub report_written-report-requires : goal.report_written-report-requires
report_written-report-requires c =
    c.mend_chars-repair.ensures.small

pub slice_bounds-chars-end-2 : goal.slice_bounds-chars-end-2
slice_bounds-chars-end-2 c =
    let m = c.mend_chars-repair in
    let few = m.ensures.few in
    let room = m.ensures.room in
    simp length-set (omega arith)

pub slice_bounds-lay-end : goal.slice_bounds-lay-end
slice_bounds-lay-end c =
    let m = c.mend_chars-repair in
    let few = m.ensures.few in
    let room = m.ensures.room in
    let size = length-set m.result.chars m.result.end line_feed in
    sym (length-take-le (m.result.end + 1) (set m.result.chars m.result.end line_feed) (omega arith))

pub returns : goal.returns
returns c =
    let out = c.args.out.now in
    let at = c.args.at in
    let chars = mended_chars c.args.line.now ++ (line_feed ∷ []) in
    let by = c.mend_chars-repair.ensures.by in
    let report : c.report_written-report.result ≡ (if eqb (altered_by c.args.line.now) 0 then 0
    else 16 + altered_by c.args.line.now) =
    c.report_written-report.ensures ∙ ap (λ (n : ℕ). if eqb n 0 then 0 else 16 + n) by in
    let written : c.lay-written.result ≡ lay_answer out at chars = c.lay-written.ensures.answer ∙ ap (lay_answer out at) (text (goal.at.returns c).After-mend_chars-repair) in
    let e = line-written (given c.args.line.now) out at c.requires refl (sym (refusal (goal.at.returns c).After-read_line-read) ∙ c.if-read-ne-ACCEPTED.false) in record {
      answer = c.reported.ensures ∙ ap (λ (n : ℕ). reported n c.lay-written.result) report
          ∙ ap (reported (if eqb (altered_by c.args.line.now) 0 then 0 else 16 + altered_by c.args.line.now))
          written ∙ e.0;
      written = c.lay-written.ensures.written ∙ ap (lay_leaves out at) (text (goal.at.returns c).After-mend_chars-repair) ∙ e.1;
    }
