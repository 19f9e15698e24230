-- The tests of the code are those of the definition, in the same order: past the nine bytes, within a byte, at its end,
-- at the end of all.
use borrow.Author.Tests.{le-ltb, lt-ltb}
use Rattle.device.proofs.function_commands.after_scratchpad.Goals as goal

pub returns-then-k-ge9 : goal.returns-then-k-ge9
returns-then-k-ge9 c =
    record { answer = simp (le-ltb _ _ c.if-k-ge9.true) }

pub returns-then-j-ge8 : goal.returns-then-j-ge8
returns-then-j-ge8 c =
    record { answer = simp (lt-ltb _ _ c.if-k-ge9.false, le-ltb _ _ c.if-j-ge8.true) }

pub returns-then-j-lt7 : goal.returns-then-j-lt7
returns-then-j-lt7 c =
    record {
      answer = simp (
        lt-ltb _ _ c.if-k-ge9.false,
        lt-ltb _ _ c.if-j-ge8.false,
        lt-ltb _ _ c.if-j-lt7.true,
      );
    }

pub returns-then-k-lt8 : goal.returns-then-k-lt8
returns-then-k-lt8 c =
    record {
      answer = simp (
        lt-ltb _ _ c.if-k-ge9.false,
        lt-ltb _ _ c.if-j-ge8.false,
        le-ltb _ _ c.if-j-lt7.false,
        lt-ltb _ _ c.if-k-lt8.true,
      );
    }

pub returns : goal.returns
returns c =
    record {
      answer = simp (
        lt-ltb _ _ c.if-k-ge9.false,
        lt-ltb _ _ c.if-j-ge8.false,
        le-ltb _ _ c.if-j-lt7.false,
        le-ltb _ _ c.if-k-lt8.false,
      );
    }
