-- A refusal has its line behind the frames.
use Rattle.captures.specs.EdgePrintingLaws.{printed-refused, printed-on}
use mathlib.Core.Path.{◌∙◌}
use Rattle.captures.proofs.edge_printing.print_answer.Goals as goal

pub returns-then-answer-ne-ACCEPTED : goal.returns-then-answer-ne-ACCEPTED
returns-then-answer-ne-ACCEPTED c =
    let a = c.args in
    let e = c.add_refusal.ensures in
    let p = printed-refused a.answer a.out.now c.if-answer-ne-ACCEPTED.true in
    record { answer = rw (c.taken.ensures.answer, e.answer) p.0; written = e.written ∙ p.1 }

pub returns : goal.returns
returns c =
    let a = c.args in
    let p = printed-on a.answer a.out.now c.if-answer-ne-ACCEPTED.false in
    record { answer = rw c.taken-2.ensures.answer p.0; written = p.1 }
