-- The code's CRC is looked at before the scratchpad.
use borrow.Author.Tests.{eq-eqb, ne_eqb}
use Rattle.naming.proofs.name_pad.Goals as goal

pub returns-then-refusal_of-eq-WRONG_CRC : goal.returns-then-refusal_of-eq-WRONG_CRC
returns-then-refusal_of-eq-WRONG_CRC c =
    simp (← c.refusal_of.ensures.answer, eq-eqb _ _ c.if-refusal_of-eq-WRONG_CRC.true, c.refuse.ensures.answer)

pub returns : goal.returns
returns c =
    simp (
      ← c.refusal_of.ensures.answer,
      ne_eqb _ _ c.if-refusal_of-eq-WRONG_CRC.false,
      ← c.family_of-family.ensures.answer,
      ← c.judge.ensures.answer,
      c.name_judged.ensures,
    )
