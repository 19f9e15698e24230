-- The end of the line decides whether it has a feed and where the next one starts.
use Prim.Native.Nat.{◌≤◌}
use mathlib.Core.Path.{sym, ◌∙◌}
use native.Mathlib.Omega.{arith}
use borrow.Author.Tests.{lt-ltb, le-ltb}
use lib.ListN.{length, drop, length-drop}
use Rattle.basic_laws.specs.FirstLaws.{at-within}
use Rattle.text.specs.Lines.{line_feed}
use Rattle.frame.proofs.RecordingLaws.{read_done, read_first}
use Rattle.frame.proofs.frame_lines.read_line_at.Goals as goal
use Rattle.frame.proofs.frame_lines.read_line_at.Goals.{After-line_end-end}

-- the end is within the data
within : (c : After-line_end-end) → c.line_end-end.result ≤ length c.args.s.now
within c =
    let a = c.args in
    let f = at-within line_feed (drop a.at a.s.now) in
    let l = length-drop a.at a.s.now in
    let e = c.line_end-end.ensures.answer in
    let h = c.if-s-at.false in
    omega arith

pub returns-then-s-at : goal.returns-then-s-at
returns-then-s-at c =
    record {
      answer = let a = c.args in
          rw c.blank.ensures.answer (sym (read_done a.s.now a.at c.if-s-at.true));
    }

pub returns-then-end-s : goal.returns-then-end-s
returns-then-end-s c =
    record {
      answer = let a = c.args in
          let r = read_first a.s.now a.at c.line_end-end.result c.if-s-at.false (sym c.line_end-end.ensures.answer) in
          c.read_line.ensures.answer ∙ sym (rw (lt-ltb _ _ c.if-end-s.true) at r);
    }

pub slice_bounds-read_line-end-2 : goal.slice_bounds-read_line-end-2
slice_bounds-read_line-end-2 c =
    within (goal.at.slice_bounds-read_line-end-2 c).After-line_end-end

pub returns : goal.returns
returns c =
    record {
      answer = let a = c.args in
          let r = read_first a.s.now a.at c.line_end-end.result c.if-s-at.false (sym c.line_end-end.ensures.answer) in
          c.read_line-2.ensures.answer ∙ sym (rw (le-ltb _ _ c.if-end-s.false) at r);
    }
