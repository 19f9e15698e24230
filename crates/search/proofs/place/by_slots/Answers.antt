-- Three slots in a row, or two where both reads showed 1.
use Rattle.search.specs.Place.{placed}
use Rattle.search.proofs.place.by_slots.Goals as goal

pub returns-then-both : goal.returns-then-both
unfolding placed
returns-then-both c =
    record { answer = simp (← c.slot-one.ensures.answer, ← c.slot-two.ensures.answer, ← c.both.ensures.answer, c.if-both.true) }

pub returns : goal.returns
unfolding placed
returns c =
    record {
      answer = simp (
        ← c.slot-one.ensures.answer,
        ← c.slot-two.ensures.answer,
        ← c.both.ensures.answer,
        c.if-both.false,
        ← c.choose-taken.ensures.answer,
        ← c.slot-three.ensures.answer,
      );
    }
