-- Refused without room; the line is short enough and is laid.
use Prim.Native.Nat.{◌+◌, ◌≤◌}
use lib.ListN.{length}
use mathlib.Core.Path.{◌≡◌, sym, ap, ◌∙◌}
use native.Mathlib.Omega.{arith}
use borrow.Author.Tests.{leb-true}
use mir.Syntax.{w32}
use mir.Val.{SFits}
use mir.ValLaws.{to_z-of_z}
use Rattle.text.specs.declared.laying.Written.{Written}
use Rattle.text.specs.Putting.{Puts, line_room}
use Rattle.text.proofs.PuttingLaws.{line_refused, line-done}
use Rattle.bench_answers.specs.AccessLine.{access_line}
use Rattle.bench_answers.specs.AccessLineLaws.{access-short}
use borrow.Author.Rules.{rules}
use Rattle.bench_answers.proofs.access_answers.access_line.Goals as goal
use Rattle.bench_answers.proofs.access_answers.access_line.Goals.{Start}

nine : (c : Start) → length c.args.pad ≡ 9
nine c =
    search rules

pub returns-then-not-room : goal.returns-then-not-room
returns-then-not-room c =
    let a = c.args in
    let none = line_refused a.out.now a.at (access_line a.refusal a.pad a.reading a.fine)
    (sym c.has_room-room.ensures.answer ∙ c.if-not-room.true) in
    let answer = c.no_room.ensures.answer in
    let next : c.no_room.result.next ≡ 0 = ap (λ (v : Written). v.next) answer in
    record { answer = answer ∙ none.0; written = none.1; fits = omega arith }

pub returns : goal.returns
returns c =
    let a = c.args in
    let text = access_line a.refusal a.pad a.reading a.fine in
    let held : SFits w32 a.fine.numerator = record { sfits = c.struct_told-1.given.0.1 } in
    let laid : Puts a.out.now a.at text c.put_access.new.out c.put_access.result =
    rw (to_z-of_z w32 a.fine.numerator held) at c.put_access.ensures in
    let short : length text ≤ line_room = access-short a.refusal a.pad a.reading a.fine.numerator
    a.fine.denominator (search rules) (nine (goal.at.returns c).Start) held (search rules) in
    let there = sym c.has_room-room.ensures.answer ∙ c.if-not-room.false in
    let done = line-done a.out.now a.at text there short _ _ laid in
    let room-there = leb-true (a.at + line_room) (length a.out.now) there in
    let place = (laid.puts (omega arith)).1 in
    let answer = c.behind.ensures.answer in
    let next : c.behind.result.next ≡ c.put_access.result = ap (λ (v : Written). v.next) answer in
    record { answer = answer ∙ done.0; written = done.1; fits = omega arith }
