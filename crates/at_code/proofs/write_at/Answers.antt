-- Refused by `admit`; otherwise by presence: written and compared, or 4. What a write comes to after every history is
-- the claim of `access_laws`.
use Rattle.master_rules.specs.Access.{write_at}
use Rattle.access_laws.proofs.WriteLaws.{write-promised}
use borrow.Author.Tests.{eq-eqb, ne_eqb}
use Rattle.at_code.proofs.write_at.Goals as goal

pub returns-then-refusal-ne-ACCEPTED : goal.returns-then-refusal-ne-ACCEPTED
unfolding write_at
returns-then-refusal-ne-ACCEPTED c =
    record { answer = simp (← c.admit-refusal.ensures.answer, ne_eqb _ _ c.if-refusal-ne-ACCEPTED.true, c.refuse.ensures.answer); history = write-promised _ _ _ }

pub returns-then-r : goal.returns-then-r
unfolding write_at
returns-then-r c =
    record {
      answer = simp (
        ← c.admit-refusal.ensures.answer,
        eq-eqb _ _ c.if-refusal-ne-ACCEPTED.false,
        ← c.reset-r.ensures.answer,
        c.if-r.true,
        c.write_and_compare.ensures.answer,
      );
      history = write-promised _ _ _;
    }

pub returns : goal.returns
unfolding write_at
returns c =
    record {
      answer = simp (
        ← c.admit-refusal.ensures.answer,
        eq-eqb _ _ c.if-refusal-ne-ACCEPTED.false,
        ← c.reset-r.ensures.answer,
        c.if-r.false,
        c.refuse-2.ensures.answer,
      );
      history = write-promised _ _ _;
    }
