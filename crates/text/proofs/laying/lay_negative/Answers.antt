-- Where there is room for both, the minus is stored and the digits are laid behind it.
use Prim.Native.Nat.{◌+◌, ◌≤◌}
use mathlib.Core.List.{◌∷◌}
use mathlib.Core.Path.{◌≡◌, sym, ◌∙◌}
use native.Mathlib.Omega.{arith}
use borrow.Author.Tests.{leb-true}
use lib.ListN.{length}
use Rattle.text.specs.Decimal.{decimal}
use Rattle.text.specs.DecimalLaws.{decimal-length, decimal-most}
use Rattle.text.proofs.LayingLaws.{lay-short, lay-marked}
use Rattle.text.proofs.laying.lay_negative.Goals as goal
use Rattle.text.proofs.laying.lay_negative.Goals.{Else-not-room}

-- both are there
room-there : (c : Else-not-room) →
    c.args.at + (1 + length (decimal c.args.size)) ≤ length c.args.out.now
room-there c =
    let count = c.decimal_length-count.ensures.answer in
    let digits = decimal-length c.args.size in
    let fits = leb-true (c.args.at + (c.decimal_length-count.result + 1))
    (length c.args.out.now) (sym c.has_room-room.ensures.answer
    ∙ c.if-not-room.false) in
    omega arith

pub overflow_add-count : goal.overflow_add-count
overflow_add-count c =
    let few = decimal-most c.args.size 20
    (omega (arith, c.ranges.size.fits)) in
    let count = c.decimal_length-count.ensures.answer in
    record { fits = omega arith }

pub returns-then-not-room : goal.returns-then-not-room
returns-then-not-room c =
    let count = c.decimal_length-count.ensures.answer ∙ sym (decimal-length c.args.size) in
    let both : c.decimal_length-count.result + 1 ≡ length (0x2D ∷ decimal c.args.size) =
    omega arith in
    let short = lay-short c.args.out.now c.args.at (0x2D ∷ decimal c.args.size)
    (c.decimal_length-count.result + 1) both (sym c.has_room-room.ensures.answer
    ∙ c.if-not-room.true) in
    record { answer = c.refuse.ensures ∙ short.0; written = short.1 }

pub returns : goal.returns
returns c =
    let digits = c.lay_decimal.ensures in
    let done = lay-marked c.args.out.now c.args.at 0x2D (decimal c.args.size)
    (room-there (goal.at.returns c).Else-not-room) in
    record { answer = digits.answer ∙ done.0; written = digits.written ∙ done.1 }
