-- One law for each way in which an end can come out: again refused, in a line, in a low, with a last frame, and before
-- any edge.
use native.Mathlib.Omega.{arith}
use Rattle.captures.proofs.EdgesLaws.{end-again, end-in-line, end_low, end-closes, end-nothing}
use mathlib.Core.Path.{◌≡◌, ◌∙◌}
use Rattle.captures.proofs.edges.end.Goals as goal

pub returns-then-reader-ne-ACCEPTED : goal.returns-then-reader-ne-ACCEPTED
returns-then-reader-ne-ACCEPTED c =
    let a = c.args in
    let again = end-again a.reader a.out.now c.if-reader-ne-ACCEPTED.true in
    record { answer = c.answer_of.ensures ∙ again.0; written = again.1 }

pub returns-then-line-gt0 : goal.returns-then-line-gt0
returns-then-line-gt0 c =
    let a = c.args in
    let some : a.reader.line.count ≡ 0 → ⊥ = λ z. omega arith in
    let cut = end-in-line a.reader a.out.now c.if-reader-ne-ACCEPTED.false some in
    record { answer = rw c.refuse.ensures at c.answer_of-then-line-gt0.ensures ∙ cut.0; written = cut.1 }

pub returns-then-ending-ne-ACCEPTED : goal.returns-then-ending-ne-ACCEPTED
returns-then-ending-ne-ACCEPTED c =
    let a = c.args in
    let none : a.reader.line.count ≡ 0 = omega arith in
    let low = end_low a.reader a.out.now c.if-reader-ne-ACCEPTED.false none c.end_at-ending.result c.end_at-ending.ensures.answer
    c.if-ending-ne-ACCEPTED.true in
    record { answer = rw c.refuse-then-ending-ne-ACCEPTED.ensures at c.answer_of-then-ending-ne-ACCEPTED.ensures ∙ low.0; written = low.1 }

pub returns-then-ending : goal.returns-then-ending
returns-then-ending c =
    let a = c.args in
    let none : a.reader.line.count ≡ 0 = omega arith in
    let last = end-closes a.reader a.out.now c.if-reader-ne-ACCEPTED.false none c.end_at-ending.result
    c.end_at-ending.ensures.answer c.if-ending-ne-ACCEPTED.false c.if-ending.true in
    record { answer = c.close_last.ensures.answer ∙ last.0; written = c.close_last.ensures.written ∙ last.1 }

pub returns : goal.returns
returns c =
    let a = c.args in
    let none : a.reader.line.count ≡ 0 = omega arith in
    let nothing = end-nothing a.reader a.out.now c.if-reader-ne-ACCEPTED.false none c.end_at-ending.result
    c.end_at-ending.ensures.answer c.if-ending-ne-ACCEPTED.false c.if-ending.false in
    record { answer = c.finish.ensures ∙ nothing.0; written = nothing.1 }
