-- The tests come in the order of the refusals: whether the code is there, then whether the version is the current one;
-- the last version is the entry's own test.
use Rattle.settings.specs.Calls.{settings_changed}
use borrow.Author.Tests.{eq-eqb, ne_eqb}
use Rattle.settings.proofs.change.Goals as goal

pub returns-then-found-ne-ACCEPTED : goal.returns-then-found-ne-ACCEPTED
unfolding settings_changed
returns-then-found-ne-ACCEPTED c =
    record { answer = simp (← c.locate-found.ensures.answer, ne_eqb _ _ c.if-found-ne-ACCEPTED.true, c.refuse_change.ensures) }

pub returns-then-version-entry : goal.returns-then-version-entry
unfolding settings_changed
returns-then-version-entry c =
    record {
      answer = simp (
        ← c.locate-found.ensures.answer,
        eq-eqb _ _ c.if-found-ne-ACCEPTED.false,
        ne_eqb _ _ c.if-version-entry.true,
        c.refuse_change-then-version-entry.ensures,
      );
    }

pub returns : goal.returns
unfolding settings_changed
returns c =
    record {
      answer = simp (
        ← c.locate-found.ensures.answer,
        eq-eqb _ _ c.if-found-ne-ACCEPTED.false,
        eq-eqb _ _ c.if-version-entry.false,
        c.change_entry.ensures,
      );
    }
