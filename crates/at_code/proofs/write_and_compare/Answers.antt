-- The settings are sent and read back; what is accepted is compared. Three ends: not as asked (13), as asked, and a
-- read that was refused, whose refusal stands.
use Rattle.master_rules.specs.Access.{written_and_read}
use borrow.Author.Tests.{eq-eqb, ne_eqb}
use Rattle.at_code.proofs.write_and_compare.Goals as goal

pub returns-then-not-as_asked : goal.returns-then-not-as_asked
unfolding written_and_read
returns-then-not-as_asked c =
    record {
      answer = simp (
        ← c.family_of.ensures.answer,
        ← c.properties_of-row.ensures.answer,
        ← c.write_settings.ensures.answer,
        ← c.read_back-back.ensures.answer,
        eq-eqb _ _ c.if-back-eq-ACCEPTED.true,
        ← c.as_asked.ensures.answer,
        c.if-not-as_asked.true,
        c.refuse.ensures.answer,
      );
    }

pub returns-else-not-as_asked : goal.returns-else-not-as_asked
unfolding written_and_read
returns-else-not-as_asked c =
    record {
      answer = simp (
        ← c.family_of.ensures.answer,
        ← c.properties_of-row.ensures.answer,
        ← c.write_settings.ensures.answer,
        ← c.read_back-back.ensures.answer,
        eq-eqb _ _ c.if-back-eq-ACCEPTED.true,
        ← c.as_asked.ensures.answer,
        c.if-not-as_asked.false,
      );
    }

pub returns-else-back-eq-ACCEPTED : goal.returns-else-back-eq-ACCEPTED
unfolding written_and_read
returns-else-back-eq-ACCEPTED c =
    record {
      answer = simp (
        ← c.family_of.ensures.answer,
        ← c.properties_of-row.ensures.answer,
        ← c.write_settings.ensures.answer,
        ← c.read_back-back.ensures.answer,
        ne_eqb _ _ c.if-back-eq-ACCEPTED.false,
      );
    }
