-- A bit that is the same leads on, to the next bit or to a function command; one that differs, or lies past the code,
-- makes the device quiet.
use borrow.Author.Tests.{eq-eqb, le-ltb, lt-ltb, ne_eqb}
use Rattle.device.proofs.rom_commands.after_match.Goals as goal

pub returns-then-i-lt63 : goal.returns-then-i-lt63
returns-then-i-lt63 c =
    record { answer = simp (← c.same_bit.ensures.answer, c.if-same_bit.true, lt-ltb _ _ c.if-i-lt63.true) }

pub returns-then-i-eq63 : goal.returns-then-i-eq63
returns-then-i-eq63 c =
    record {
      answer = simp (
        ← c.same_bit.ensures.answer,
        c.if-same_bit.true,
        le-ltb _ _ c.if-i-lt63.false,
        eq-eqb _ _ c.if-i-eq63.true,
      );
    }

pub returns-else-i-eq63 : goal.returns-else-i-eq63
returns-else-i-eq63 c =
    record {
      answer = simp (
        ← c.same_bit.ensures.answer,
        c.if-same_bit.true,
        le-ltb _ _ c.if-i-lt63.false,
        ne_eqb _ _ c.if-i-eq63.false,
      );
    }

pub returns-else-same_bit : goal.returns-else-same_bit
returns-else-same_bit c =
    record { answer = simp (← c.same_bit.ensures.answer, c.if-same_bit.false) }
