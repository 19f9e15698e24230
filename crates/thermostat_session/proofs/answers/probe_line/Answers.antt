-- Refused without room; the line is short enough and is laid.
use Prim.Native.Nat.{◌+◌, ◌≤◌}
use lib.ListN.{length}
use mathlib.Core.Path.{◌≡◌, sym, ap, ◌∙◌}
use native.Mathlib.Omega.{arith}
use borrow.Author.Tests.{leb-true}
use Rattle.text.specs.declared.laying.Written.{Written}
use Rattle.basic_laws.proofs.ComplementLaws.{held_back}
use Rattle.text.specs.Putting.{Puts, line_room}
use Rattle.text.proofs.PuttingLaws.{line_refused, line-done}
use Rattle.thermostat_session.specs.ProbeLines.{probe_line}
use borrow.Author.Rules.{rules}
use Rattle.thermostat_session.proofs.answers.probe_line.Goals as goal

pub returns-then-not-room : goal.returns-then-not-room
returns-then-not-room c =
    let a = c.args in
    let none = line_refused a.out.now a.at (probe_line a.p) (sym c.has_room-room.ensures.answer
    ∙ c.if-not-room.true) in
    let answer = c.no_room.ensures.answer in
    let next : c.no_room.result.next ≡ 0 = ap (λ (v : Written). v.next) answer in
    record { answer = answer ∙ none.0; written = none.1; fits = omega arith }

pub returns : goal.returns
returns c =
    let a = c.args in
    let has = sym c.has_room-room.ensures.answer ∙ c.if-not-room.false in
    let t = held_back c.limit_of-t.result.0 (record { sfits = search rules }) in
    let h = held_back c.limit_of-high.result.0
    (record { sfits = search rules }) in
    let l = held_back c.limit_of-low.result.0 (record { sfits = search rules }) in
    let laid : Puts a.out.now a.at (probe_line a.p) c.put_fields.new.out c.put_fields.result
    × (length (probe_line a.p) ≤ line_room)
    = rw (
      t,
      h,
      l,
      c.limit_of-t.ensures.answer,
      c.limit_of-high.ensures.answer,
      c.limit_of-low.ensures.answer,
      c.status_of-status.ensures.answer,
    ) at c.put_fields.ensures in
    let done = line-done a.out.now a.at (probe_line a.p) has laid.1 _ _ laid.0 in
    let behind = laid.0.puts in
    let room-there = leb-true (a.at + line_room) (length a.out.now) has in
    let short = laid.1 in
    let place = (behind (omega arith)).1 in
    let answer = c.behind.ensures.answer in
    let next : c.behind.result.next ≡ c.put_fields.result = ap (λ (v : Written). v.next) answer in
    record { answer = answer ∙ done.0; written = done.1; fits = omega arith }
