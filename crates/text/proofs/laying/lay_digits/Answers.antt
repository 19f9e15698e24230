-- The digits are laid where they fit.
use Prim.Native.Nat.{◌+◌, ◌≤◌}
use mathlib.Core.Path.{sym, ◌∙◌}
use borrow.Author.Tests.{leb-true}
use lib.ListN.{length}
use Rattle.text.specs.Digits.{digits}
use Rattle.text.specs.DigitsLaws.{digits-length}
use Rattle.text.proofs.LayingLaws.{lay-short, lay_done}
use Rattle.text.proofs.laying.lay_digits.Goals as goal
use Rattle.text.proofs.laying.lay_digits.Goals.{Else-not-room}

-- behind the test there is room
room-there : (c : Else-not-room) →
    c.args.at + c.args.count ≤ length c.args.out.now
room-there c =
    leb-true (c.args.at + c.args.count) (length c.args.out.now) (sym c.has_room-room.ensures.answer
    ∙ c.if-not-room.false)

pub returns-then-not-room : goal.returns-then-not-room
returns-then-not-room c =
    let short = lay-short c.args.out.now c.args.at (digits c.args.base c.args.count c.args.number)
    c.args.count (sym (digits-length c.args.base c.args.count c.args.number)) (sym c.has_room-room.ensures.answer
    ∙ c.if-not-room.true) in
    record { answer = c.refuse.ensures ∙ short.0; written = short.1 }

pub returns : goal.returns
returns c =
    let done = lay_done c.args.out.now c.args.at (digits c.args.base c.args.count c.args.number)
    c.args.count (sym (digits-length c.args.base c.args.count c.args.number))
    (room-there (goal.at.returns c).Else-not-room) in
    record { answer = done.0; written = c.put_digits.ensures ∙ done.1 }
