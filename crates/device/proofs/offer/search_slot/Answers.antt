-- The bit, its complement, and nothing in the third slot; past the code a 1.
use borrow.Author.Tests.{le-ltb, lt-ltb}
use Rattle.device.proofs.offer.search_slot.Goals as goal

pub returns-in-SendBit : goal.returns-in-SendBit
returns-in-SendBit c =
    record { answer = simp (c.in-SendBit.is, c.code_slot.ensures.answer) }

pub returns-then-i-lt64 : goal.returns-then-i-lt64
returns-then-i-lt64 c =
    record { answer = simp (c.in-SendComplement.is, lt-ltb _ _ c.if-i-lt64.true, c.bit_of-bit.ensures.answer) }

pub returns-else-i-lt64 : goal.returns-else-i-lt64
returns-else-i-lt64 c =
    record { answer = simp (c.in-SendComplement.is, le-ltb _ _ c.if-i-lt64.false) }

pub returns-in-TakeBit : goal.returns-in-TakeBit
returns-in-TakeBit c =
    record { answer = simp c.in-TakeBit.is }
