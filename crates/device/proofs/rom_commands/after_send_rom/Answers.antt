-- Before the last bit, at it, and past it.
use borrow.Author.Tests.{eq-eqb, le-ltb, lt-ltb, ne_eqb}
use Rattle.device.proofs.rom_commands.after_send_rom.Goals as goal

pub returns-then-i-lt63 : goal.returns-then-i-lt63
returns-then-i-lt63 c =
    record { answer = simp (lt-ltb _ _ c.if-i-lt63.true) }

pub returns-then-i-eq63 : goal.returns-then-i-eq63
returns-then-i-eq63 c =
    record { answer = simp (le-ltb _ _ c.if-i-lt63.false, eq-eqb _ _ c.if-i-eq63.true) }

pub returns : goal.returns
returns c =
    record { answer = simp (le-ltb _ _ c.if-i-lt63.false, ne_eqb _ _ c.if-i-eq63.false) }
