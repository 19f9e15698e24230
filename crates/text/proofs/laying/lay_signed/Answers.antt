-- By the sign, as the definition tests it.
use lib.IntN.{nat_abs}
use mathlib.Core.Path.{ap, ◌∙◌}
use Rattle.text.specs.DecimalLaws.{signed-negative, signed-positive}
use Rattle.text.specs.Laying.{lay_answer, lay_leaves}
use mir.Syntax.{w32}
use mir.ValLaws.{to_z-of_z}
use Rattle.text.proofs.laying.lay_signed.Goals as goal

pub returns-then-number-lt0 : goal.returns-then-number-lt0
returns-then-number-lt0 c =
    let laid = c.lay_negative.ensures in
    let size = c.size_of-size.ensures.answer ∙ ap nat_abs (to_z-of_z w32 c.args.number c.ranges.number) in
    let negative = rw (to_z-of_z w32 c.args.number c.ranges.number) at c.if-number-lt0.true in
    let text = signed-negative c.args.number c.size_of-size.result size negative in record { answer = laid.answer ∙ ap (lay_answer c.args.out.now c.args.at) text; written = laid.written ∙ ap (lay_leaves c.args.out.now c.args.at) text }

pub returns : goal.returns
returns c =
    let laid = c.lay_decimal.ensures in
    let size = c.size_of-size.ensures.answer ∙ ap nat_abs (to_z-of_z w32 c.args.number c.ranges.number) in
    let positive = rw (to_z-of_z w32 c.args.number c.ranges.number) at c.if-number-lt0.false in
    let text = signed-positive c.args.number c.size_of-size.result size positive in record { answer = laid.answer ∙ ap (lay_answer c.args.out.now c.args.at) text; written = laid.written ∙ ap (lay_leaves c.args.out.now c.args.at) text }
