-- A comparison with a known bit is that bit or its complement.
use Rattle.basic_laws.specs.ChoiceLaws.{beq-true, beq-false}
use Rattle.device.proofs.rom_commands.same_bit.Goals as goal

pub returns-then-own : goal.returns-then-own
returns-then-own c =
    record { answer = simp (← c.bit_of-own.ensures.answer, c.if-own.true, beq-true) }

pub returns-else-own : goal.returns-else-own
returns-else-own c =
    record { answer = simp (← c.bit_of-own.ensures.answer, c.if-own.false, beq-false) }
