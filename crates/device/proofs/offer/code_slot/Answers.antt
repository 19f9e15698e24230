-- Within the 64 bits the line gets the bit of the code, past them a 1.
use borrow.Author.Tests.{le-ltb, lt-ltb}
use Rattle.device.proofs.offer.code_slot.Goals as goal

pub returns-then-i-lt64 : goal.returns-then-i-lt64
returns-then-i-lt64 c =
    record { answer = simp (lt-ltb _ _ c.if-i-lt64.true, c.bit_of.ensures.answer) }

pub returns-else-i-lt64 : goal.returns-else-i-lt64
returns-else-i-lt64 c =
    record { answer = simp (le-ltb _ _ c.if-i-lt64.false) }
