-- The three slots of the place, by whether anybody answered.
use mathlib.Core.Path.{◌∙◌, sym}
use Rattle.search.specs.Pass.{place-over, place-on}
use Rattle.search.proofs.pass.take_bit.Goals as goal

pub returns-then-silent : goal.returns-then-silent
returns-then-silent c =
    record {
      answer = let a = c.args in
          rw (c.push-reads.ensures.answer, c.push.ensures.answer, c.slots_at-r.ensures.answer, c.planned.ensures.answer)
          (sym (place-over a.previous a.departure a.place a.w
          (rw (← c.planned.ensures.answer, ← c.slots_at-r.ensures.answer) (sym c.silent.ensures.answer ∙ c.if-silent.true))));
    }

pub returns : goal.returns
returns c =
    record {
      answer = let a = c.args in
          rw (
            c.last_after.ensures.answer,
            c.with_bit.ensures.answer,
            c.push-2.ensures.answer,
            c.push-reads.ensures.answer,
            c.push.ensures.answer,
            c.slots_at-r.ensures.answer,
            c.planned.ensures.answer,
          )
          (sym (place-on a.previous a.departure a.place a.w
          (rw (← c.planned.ensures.answer, ← c.slots_at-r.ensures.answer) (sym c.silent.ensures.answer ∙ c.if-silent.false))));
    }
