-- The code's tests are the definition's.
use borrow.Author.Tests.{eq-eqb, ne_eqb}
use Rattle.naming.proofs.is_nobody.Goals as goal

pub returns-then-f-ne-NOBODY_SLOTS : goal.returns-then-f-ne-NOBODY_SLOTS
returns-then-f-ne-NOBODY_SLOTS c =
    simp (ne_eqb _ _ c.if-f-ne-NOBODY_SLOTS.true)

pub returns-then-slot_bit : goal.returns-then-slot_bit
returns-then-slot_bit c =
    simp (
      eq-eqb _ _ c.if-f-ne-NOBODY_SLOTS.false,
      ← c.is_search.ensures,
      c.if-is_search.true,
      ← c.slot_bit.ensures.answer,
      c.if-slot_bit.true,
      c.slot_bit-then-slot_bit.ensures.answer,
    )

pub returns-else-slot_bit : goal.returns-else-slot_bit
returns-else-slot_bit c =
    simp (
      eq-eqb _ _ c.if-f-ne-NOBODY_SLOTS.false,
      ← c.is_search.ensures,
      c.if-is_search.true,
      ← c.slot_bit.ensures.answer,
      c.if-slot_bit.false,
    )

pub returns : goal.returns
returns c =
    simp (eq-eqb _ _ c.if-f-ne-NOBODY_SLOTS.false, ← c.is_search.ensures, c.if-is_search.false)
