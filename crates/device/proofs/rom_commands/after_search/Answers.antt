-- One return for each of the three slots of a bit.
use Rattle.device.proofs.rom_commands.after_search.Goals as goal

pub returns-in-SendBit : goal.returns-in-SendBit
returns-in-SendBit c =
    record { answer = simp c.in-SendBit.is }

pub returns-in-SendComplement : goal.returns-in-SendComplement
returns-in-SendComplement c =
    record { answer = simp c.in-SendComplement.is }

pub returns-in-TakeBit : goal.returns-in-TakeBit
returns-in-TakeBit c =
    record { answer = simp (c.in-TakeBit.is, c.after_taking.ensures.answer) }
