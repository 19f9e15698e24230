-- Refused without room; the line is short enough and is laid.
use Prim.Native.Nat.{◌+◌, ◌≤◌}
use lib.ListN.{length}
use Rattle.text.specs.Putting.{Puts, line_room}
use mathlib.Core.Path.{◌≡◌, sym, ap, ◌∙◌}
use native.Mathlib.Omega.{arith}
use borrow.Author.Tests.{leb-true}
use Rattle.text.specs.declared.laying.Written.{Written}
use Rattle.basic_laws.specs.Complement.{Fits16}
use Rattle.basic_laws.proofs.ComplementLaws.{held_back}
use Rattle.temperature.specs.Register.{count_of}
use Rattle.text.proofs.PuttingLaws.{line_refused, line-done}
use Rattle.bench_answers.specs.WhyLine.{why_line}
use Rattle.bench_answers.proofs.why_answers.why_line.Goals as goal

pub returns-then-not-room : goal.returns-then-not-room
returns-then-not-room c =
    let a = c.args in
    let none = line_refused a.out.now a.at (why_line a.w) (sym c.has_room-room.ensures.answer
    ∙ c.if-not-room.true) in
    let answer = c.no_room.ensures.answer in
    let next : c.no_room.result.next ≡ 0 = ap (λ (v : Written). v.next) answer in
    record { answer = answer ∙ none.0; written = none.1; fits = omega arith }

pub returns : goal.returns
returns c =
    let a = c.args in
    let high = held_back a.w.high.0 (record { sfits = c.struct_told-1.given.0.1 }) in
    let low = held_back a.w.low.0 (record { sfits = c.struct_told-2-1.given.0.1 }) in
    let fits : Fits16 (count_of a.w.reading) =
    record { sfits = rw c.count_of-count.ensures.answer at c.count_of-count.type_inv } in
    let laid : Puts a.out.now a.at (why_line a.w) c.put_fields.new.out c.put_fields.result
    × (length (why_line a.w) ≤ line_room)
    = rw (
      high,
      low,
      c.number_of-number.ensures.answer,
      c.count_of-count.ensures.answer,
      held_back (count_of a.w.reading) fits,
    ) at c.put_fields.ensures in
    let done = line-done a.out.now a.at (why_line a.w) (sym c.has_room-room.ensures.answer
    ∙ c.if-not-room.false) laid.1 _ _ laid.0 in
    let behind = laid.0.puts in
    let room-there = leb-true (a.at + line_room) (length a.out.now) (sym c.has_room-room.ensures.answer
    ∙ c.if-not-room.false) in
    let short = laid.1 in
    let place = (behind (omega arith)).1 in
    let answer = c.behind.ensures.answer in
    let next : c.behind.result.next ≡ c.put_fields.result = ap (λ (v : Written). v.next) answer in
    record { answer = answer ∙ done.0; written = done.1; fits = omega arith }
