-- The tests come in the order of the refusals: the code itself, a device that has it, and the room.
use Rattle.bench.specs.Calls.{added_to}
use borrow.Author.Tests.{eq-eqb, ne_eqb}
use Rattle.bench.proofs.add.Goals as goal

pub returns-then-refusal-ne-ACCEPTED : goal.returns-then-refusal-ne-ACCEPTED
unfolding added_to
returns-then-refusal-ne-ACCEPTED c =
    record { answer = simp (← c.refusal_of-refusal.ensures.answer, ne_eqb _ _ c.if-refusal-ne-ACCEPTED.true) }

pub returns-in-At : goal.returns-in-At
unfolding added_to
returns-in-At c =
    record {
      answer = simp (
        ← c.refusal_of-refusal.ensures.answer,
        eq-eqb _ _ c.if-refusal-ne-ACCEPTED.false,
        ← c.find-place.ensures.answer,
        c.in-At.is,
      );
    }

pub returns-in-Nowhere : goal.returns-in-Nowhere
unfolding added_to
returns-in-Nowhere c =
    record {
      answer = simp (
        ← c.refusal_of-refusal.ensures.answer,
        eq-eqb _ _ c.if-refusal-ne-ACCEPTED.false,
        ← c.find-place.ensures.answer,
        c.in-Nowhere.is,
        c.put_last.ensures.answer,
      );
    }
