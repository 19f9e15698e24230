-- Refused without room; the line is short enough and is laid.
use Prim.Native.Nat.{◌+◌}
use lib.ListN.{length}
use mathlib.Core.Path.{◌≡◌, sym, ap, ◌∙◌}
use native.Mathlib.Omega.{arith}
use borrow.Author.Tests.{leb-true}
use Rattle.text.specs.declared.laying.Written.{Written}
use Rattle.text.specs.Putting.{line_room}
use Rattle.text.proofs.PuttingLaws.{line_refused, line-done}
use Rattle.bench_answers.specs.SettingsLines.{change_line}
use Rattle.bench_answers.proofs.settings_answers.change_line.Goals as goal

pub returns-then-not-room : goal.returns-then-not-room
returns-then-not-room c =
    let a = c.args in
    let none = line_refused a.out.now a.at (change_line a.refusal a.version) (sym c.has_room-room.ensures.answer
    ∙ c.if-not-room.true) in
    let answer = c.no_room.ensures.answer in
    let next : c.no_room.result.next ≡ 0 = ap (λ (v : Written). v.next) answer in
    record { answer = answer ∙ none.0; written = none.1; fits = omega arith }

pub returns : goal.returns
returns c =
    let a = c.args in
    let has = sym c.has_room-room.ensures.answer ∙ c.if-not-room.false in
    let laid = c.put_change.ensures in
    let done = line-done a.out.now a.at (change_line a.refusal a.version) has laid.1 _ _ laid.0 in
    let behind = laid.0.puts in
    let room-there = leb-true (a.at + line_room) (length a.out.now) has in
    let short = laid.1 in
    let place = (behind (omega arith)).1 in
    let answer = c.behind.ensures.answer in
    let next : c.behind.result.next ≡ c.put_change.result = ap (λ (v : Written). v.next) answer in
    record { answer = answer ∙ done.0; written = done.1; fits = omega arith }
