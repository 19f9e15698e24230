use mathlib.Core.Path.{sym, ◌∙◌}
use Rattle.pins.specs.ReadingLaws.{shared-here, shared-on, shared-none}
use borrow.Author.Rules.{rules}
use Rattle.pins.proofs.shared_pin.Goals as goal

pub returns-then-have-gt1 : goal.returns-then-have-gt1
returns-then-have-gt1 c =
    let a = c.args in
    let two = rw c.have_pin-have.ensures at c.if-have-gt1.true in
    shared-here a.pins.now 16 c.loop-pin.pin (search rules) two ∙ c.loop-pin.invariant

pub loop-pin-preserved : goal.loop-pin-preserved
loop-pin-preserved c =
    let a = c.args in
    let few = rw c.have_pin-have.ensures at c.if-have-gt1.false in
    sym (shared-on a.pins.now 16 c.loop-pin.pin (search rules) few) ∙ c.loop-pin.invariant

pub returns : goal.returns
returns c =
    let a = c.args in
    shared-none a.pins.now 16 c.loop-pin.pin (search rules) ∙ c.loop-pin.invariant
