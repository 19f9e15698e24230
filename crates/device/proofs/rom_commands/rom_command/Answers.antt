-- One return for each command, two for the alarm search, and one for all other bytes.
use borrow.Author.Tests.{ne_eqb}
use Rattle.device.proofs.rom_commands.rom_command.Goals as goal

pub returns-in-51 : goal.returns-in-51
returns-in-51 c =
    record { answer = simp c.in-51.is }

pub returns-in-85 : goal.returns-in-85
returns-in-85 c =
    record { answer = simp c.in-85.is }

pub returns-in-204 : goal.returns-in-204
returns-in-204 c =
    record { answer = simp c.in-204.is }

pub returns-in-240 : goal.returns-in-240
returns-in-240 c =
    record { answer = simp c.in-240.is }

pub returns-then-alarm : goal.returns-then-alarm
returns-then-alarm c =
    record { answer = simp (c.in-236.is, c.if-alarm.true) }

pub returns-else-alarm : goal.returns-else-alarm
returns-else-alarm c =
    record { answer = simp (c.in-236.is, c.if-alarm.false) }

pub returns-in_default : goal.returns-in_default
returns-in_default c =
    record {
      answer = simp (
        ne_eqb _ _ c.in_default.in_default-own.rest.0.0.0.0.1,
        ne_eqb _ _ c.in_default.in_default-own.rest.0.0.0.1,
        ne_eqb _ _ c.in_default.in_default-own.rest.0.0.1,
        ne_eqb _ _ c.in_default.in_default-own.rest.0.1,
        ne_eqb _ _ c.in_default.in_default-own.rest.1,
      );
    }
