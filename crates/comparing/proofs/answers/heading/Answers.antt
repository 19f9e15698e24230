-- Refused without room; the line is short enough and is laid.
use Prim.Native.Nat.{◌+◌}
use mathlib.Core.Path.{◌≡◌, sym, ap, ◌∙◌}
use native.Mathlib.Omega.{arith}
use borrow.Author.Tests.{leb-true}
use lib.ListN.{length}
use Rattle.text.specs.declared.laying.Written.{Written}
use Rattle.text.specs.Decimal.{decimal}
use Rattle.text.specs.Lines.{line_feed, space}
use Rattle.text.specs.Putting.{line_room}
use Rattle.text.proofs.PuttingLaws.{field_puts, line_refused, line-done}
use Rattle.comparing.specs.Heading.{side_word, heading_of}
use Rattle.comparing.specs.HeadingLaws.{heading-short, heading-puts}
use Rattle.comparing.proofs.answers.heading.Goals as goal

pub returns-then-not-room : goal.returns-then-not-room
returns-then-not-room c =
    let a = c.args in
    let none = line_refused a.out.now 0 (heading_of a.side a.line) (sym c.has_room-room.ensures.answer
    ∙ c.if-not-room.true) in
    let answer = c.no_room.ensures.answer in
    let next : c.no_room.result.next ≡ 0 = ap (λ (w : Written). w.next) answer in
    record { answer = (answer ∙ none.0, omega arith); written = none.1 }

pub returns : goal.returns
returns c =
    let a = c.args in
    let heading = heading_of a.side a.line in
    let laid = heading-puts a.side a.line
    (field_puts a.out.now 0 (side_word a.side a.line) space c.put_side-behind_word.new.out c.put_side-behind_word.result
    (c.put_side-behind_word.ensures.answer, c.put_side-behind_word.ensures.written))
    (field_puts c.put_side-behind_word.new.out c.put_side-behind_word.result (decimal a.line) line_feed
    c.put_number.new.out c.put_number.result (
      c.put_number.ensures.answer,
      c.put_number.ensures.written,
    )) in
    let there = sym c.has_room-room.ensures.answer ∙ c.if-not-room.false in
    let short = heading-short a.side a.line c.ranges.line.fits in
    let done = line-done a.out.now 0 heading there short c.put_number.new.out c.put_number.result
    laid in
    let enough = leb-true (0 + line_room) (length a.out.now) there in
    let behind = (laid.puts (omega arith)).1 in
    let answer = c.behind.ensures.answer in
    let next : c.behind.result.next ≡ c.put_number.result = ap (λ (w : Written). w.next) answer in
    record { answer = (answer ∙ done.0, omega arith); written = done.1 }
