-- The three slots of one place of a search (the scope, "The master").
--     chosen a b w      the bit to take after reading a and b, not both 1, where the plan has w
--     placed b w        on the bench b two reads and the slot of the bit taken; where both reads show 1 nobody answers,
--                       and the reads are all
use Rattle.std.specs.Prelude.{Bool, true, false, ◌&&◌}
use Rattle.std.specs.Prelude.{if◌then◌else◌}
use Rattle.bench.specs.Slot.{slotted}
use Rattle.bench.specs.declared.Bench.{Bench}
use Rattle.search.specs.declared.place.Placed.{Placed}

abbrev pub chosen : Bool → Bool → Bool → Bool
chosen a b w = if a then true else if b then false else w

unfoldable pub placed : Bench → Bool → Placed
placed b w =
    let one = slotted b true in
    let two = slotted one.bench true in
    let taken = chosen one.line two.line w in
    let three = slotted two.bench taken in
    if one.line && two.line
    then record { bench = two.bench; first = one.line; second = two.line; taken = false; third = false }
    else record { bench = three.bench; first = one.line; second = two.line; taken = taken; third = three.line }
