-- The calls give the two sides of the definition's first test and the row of its second.
use borrow.Author.Tests.{eq-eqb, ne_eqb}
use Rattle.rom.specs.Code.{code_refusal}
use Rattle.rom.proofs.refusal_of.Goals as goal

pub returns-then-given-right : goal.returns-then-given-right
unfolding code_refusal
returns-then-given-right c =
    record {
      answer = simp (
        ← c.crc_byte_of-given.ensures.answer,
        ← c.crc_of_code-right.ensures.answer,
        ne_eqb _ _ c.if-given-right.true,
      );
    }

pub returns-then-row : goal.returns-then-row
unfolding code_refusal
returns-then-row c =
    record {
      answer = simp (
        ← c.crc_byte_of-given.ensures.answer,
        ← c.crc_of_code-right.ensures.answer,
        eq-eqb _ _ c.if-given-right.false,
        ← c.family_of.ensures.answer,
        ← c.properties_of-row.ensures.answer,
        c.if-row.true,
      );
    }

pub returns-else-row : goal.returns-else-row
unfolding code_refusal
returns-else-row c =
    record {
      answer = simp (
        ← c.crc_byte_of-given.ensures.answer,
        ← c.crc_of_code-right.ensures.answer,
        eq-eqb _ _ c.if-given-right.false,
        ← c.family_of.ensures.answer,
        ← c.properties_of-row.ensures.answer,
        c.if-row.false,
      );
    }
