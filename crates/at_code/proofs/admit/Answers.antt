-- The code is tested first, then the wire.
use Rattle.master_rules.specs.Access.{admission}
use borrow.Author.Tests.{eq-eqb, ne_eqb}
use Rattle.at_code.proofs.admit.Goals as goal

pub returns-then-refusal-ne-ACCEPTED : goal.returns-then-refusal-ne-ACCEPTED
unfolding admission
returns-then-refusal-ne-ACCEPTED c =
    record { answer = simp (← c.refusal_of-refusal.ensures.answer, ne_eqb _ _ c.if-refusal-ne-ACCEPTED.true) }

pub returns-then-is_free : goal.returns-then-is_free
unfolding admission
returns-then-is_free c =
    record {
      answer = simp (
        ← c.refusal_of-refusal.ensures.answer,
        eq-eqb _ _ c.if-refusal-ne-ACCEPTED.false,
        ← c.is_free.ensures.answer,
        c.if-is_free.true,
      );
    }

pub returns-else-is_free : goal.returns-else-is_free
unfolding admission
returns-else-is_free c =
    record {
      answer = simp (
        ← c.refusal_of-refusal.ensures.answer,
        eq-eqb _ _ c.if-refusal-ne-ACCEPTED.false,
        ← c.is_free.ensures.answer,
        c.if-is_free.false,
      );
    }
