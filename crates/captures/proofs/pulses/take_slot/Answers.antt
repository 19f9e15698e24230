-- Without presence and at 512 slots the slot is refused.
use Prim.Native.Nat.{◌≤◌}
use native.Mathlib.Omega.{arith}
use Rattle.captures.specs.RuleLaws.{slot-past}
use mathlib.Core.Path.{◌∙◌}
use Rattle.captures.proofs.pulses.take_slot.Goals as goal

pub returns-then-frame-ge-MOST_SLOTS : goal.returns-then-frame-ge-MOST_SLOTS
returns-then-frame-ge-MOST_SLOTS c =
    let w = c.args.wire in
    let full : 512 ≤ w.frame.count = omega arith in
    c.refuse-then-frame-ge-MOST_SLOTS.ensures ∙ slot-past w _ _ full
