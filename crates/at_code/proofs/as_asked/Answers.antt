-- The limits one after the other, then the configuration by its family's own comparison.
use Rattle.master_rules.specs.Access.{as_asked}
use borrow.Author.Tests.{eq-eqb, ne_eqb}
use Rattle.at_code.proofs.as_asked.Goals as goal

pub returns-then-pad-s : goal.returns-then-pad-s
unfolding as_asked
returns-then-pad-s c =
    record { answer = simp (ne_eqb _ _ c.if-pad-s.true) }

pub returns-then-pad-s-2 : goal.returns-then-pad-s-2
unfolding as_asked
returns-then-pad-s-2 c =
    record { answer = simp (eq-eqb _ _ c.if-pad-s.false, ne_eqb _ _ c.if-pad-s-2.true) }

pub returns : goal.returns
unfolding as_asked
returns c =
    record {
      answer = rw (
        c.configuration_as_asked.ensures.answer,
        eq-eqb _ _ c.if-pad-s.false,
        eq-eqb _ _ c.if-pad-s-2.false,
      );
    }
