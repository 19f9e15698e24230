-- The code's tests are the definition's.
use borrow.Author.Tests.{eq-eqb, ne_eqb}
use Rattle.naming.proofs.is_pad.Goals as goal

pub returns-then-f-ne-PAD_SLOTS : goal.returns-then-f-ne-PAD_SLOTS
returns-then-f-ne-PAD_SLOTS c =
    simp (ne_eqb _ _ c.if-f-ne-PAD_SLOTS.true)

pub returns-then-bits-eq-MATCH_ROM : goal.returns-then-bits-eq-MATCH_ROM
returns-then-bits-eq-MATCH_ROM c =
    simp (eq-eqb _ _ c.if-f-ne-PAD_SLOTS.false, eq-eqb _ _ c.if-bits-eq-MATCH_ROM.true)

pub returns-else-bits-eq-MATCH_ROM : goal.returns-else-bits-eq-MATCH_ROM
returns-else-bits-eq-MATCH_ROM c =
    simp (eq-eqb _ _ c.if-f-ne-PAD_SLOTS.false, ne_eqb _ _ c.if-bits-eq-MATCH_ROM.false)
