-- One law of the definition for each of the ways a write can end.
use Prim.Native.Nat.{◌+◌, ◌*◌, ◌≤◌}
use mathlib.Core.Path.{◌≡◌, sym, ◌∙◌}
use mathlib.Core.Bool.{true}
use borrow.Author.Tests.{leb-true}
use lib.ListN.{length}
use Rattle.frame.specs.Frames.{lineable}
use Rattle.frame.specs.Writing.{fed_line}
use Rattle.frame.proofs.WritingLaws.{fed-length, write-short, write_done}
use borrow.Author.Rules.{rules}
use Rattle.frame.proofs.frame_lines.write_line_at.Goals as goal
use Rattle.frame.proofs.frame_lines.write_line_at.Goals.{After-bytes_for, Else-not-room, Else-not-sound, Start}

long : (c : Start) → length c.args.f.bits ≡ 64
long c =
    search rules

-- behind the first test the frame is sound, and its line has its width
sound : (c : Else-not-sound) → lineable c.args.f ≡ true
sound c =
    sym c.can_carry-sound.ensures.answer ∙ c.if-not-sound.false

wide : (c : After-bytes_for) → length (fed_line c.args.f)
    ≡ 7 + 2 * c.bytes_for.result
wide c =
    rw c.bytes_for.ensures.answer (fed-length c.args.f (long (c.before.before.before.before)) (sound (record { before = c.before; type_inv = record { s = c.before.slice_known-1.given } })))

-- behind the second there is room
room-there : (c : Else-not-room) →
    c.args.at + (7 + 2 * c.bytes_for.result) ≤ length c.args.s.now
room-there c =
    leb-true (c.args.at + (7 + 2 * c.bytes_for.result)) (length c.args.s.now)
    (sym c.has_room-room.ensures.answer ∙ c.if-not-room.false)

pub returns-then-not-room : goal.returns-then-not-room
returns-then-not-room c =
    let a = c.args in
    let short = write-short a.s.now a.at a.f (7 + 2 * c.bytes_for.result) (sound (goal.at.returns-then-not-room c).Else-not-sound)
    (wide (goal.at.returns-then-not-room c).After-bytes_for) (sym c.has_room-room.ensures.answer ∙ c.if-not-room.true) in
    record { answer = c.refuse_write-then-not-room.ensures ∙ short.0; written = short.1 }

pub returns : goal.returns
returns c =
    let a = c.args in
    let done = write_done a.s.now a.at a.f (7 + 2 * c.bytes_for.result) (sound (goal.at.returns c).Else-not-sound)
    (wide (goal.at.returns c).After-bytes_for) (room-there (goal.at.returns c).Else-not-room) in
    record { answer = done.0; written = c.put_line.ensures ∙ done.1 }
