-- Another character, no room, or all the bytes laid.
use Prim.Native.Nat.{◌+◌, ◌/◌, ◌≤◌}
use mathlib.Core.Path.{◌≡◌, sym, ◌∙◌}
use mathlib.Core.Bool.{true}
use borrow.Author.Tests.{leb-true}
use lib.ListN.{length}
use Rattle.text.specs.Digits.{spells}
use Rattle.text.specs.DigitsLaws.{bytes-half}
use Rattle.text.proofs.LayingLaws.{decode-short, decode-done}
use Rattle.text.proofs.laying.read_bytes.Goals as goal
use Rattle.text.proofs.laying.read_bytes.Goals.{Else-not-room, Else-not-spelt}

-- behind the first test all are digits, and behind the second there is room
spelt-all : (c : Else-not-spelt) → spells 16 c.args.s.now ≡ true
spelt-all c =
    sym c.all_digits-spelt.ensures.answer ∙ c.if-not-spelt.false

room-there : (c : Else-not-room) →
    0 + length c.args.s.now / 2 ≤ length c.args.out.now
room-there c =
    leb-true (0 + length c.args.s.now / 2) (length c.args.out.now) (sym c.has_room-room.ensures.answer
    ∙ c.if-not-room.false)

pub returns-then-not-room : goal.returns-then-not-room
returns-then-not-room c =
    let s = c.args.s.now in
    let short = decode-short c.args.out.now s (spelt-all (goal.at.returns-then-not-room c).Else-not-spelt) (length s / 2) (sym (bytes-half s))
    (sym c.has_room-room.ensures.answer ∙ c.if-not-room.true) in
    record { answer = c.refuse-then-not-room.ensures ∙ short.0; written = short.1 }

pub returns : goal.returns
returns c =
    let s = c.args.s.now in
    let done = decode-done c.args.out.now s (spelt-all (goal.at.returns c).Else-not-spelt) (length s / 2) (sym (bytes-half s))
    (room-there (goal.at.returns c).Else-not-room) in
    record { answer = done.0; written = c.decode.ensures ∙ done.1 }
