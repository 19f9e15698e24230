-- By the definition's own test.
use borrow.Author.Tests.{eq-eqb, ne_eqb}
use Rattle.bench_answers.specs.Answers.{show_line}
use Rattle.bench_answers.proofs.show_line.Goals as goal

pub returns-then-refusal-eq-ACCEPTED : goal.returns-then-refusal-eq-ACCEPTED
unfolding show_line
returns-then-refusal-eq-ACCEPTED c =
    rw (eq-eqb _ _ c.if-refusal-eq-ACCEPTED.true) (record { answer = c.record_line.ensures.answer; written = c.record_line.ensures.written })

pub returns : goal.returns
unfolding show_line
returns c =
    rw (ne_eqb _ _ c.if-refusal-eq-ACCEPTED.false) (record { answer = c.record_line-2.ensures.answer; written = c.record_line-2.ensures.written })
