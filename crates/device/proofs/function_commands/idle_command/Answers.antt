-- One return for each command that a device obeys, by the key of the match, and one for all other bytes.
use Rattle.device.specs.Hear.{idle_command}
use borrow.Author.Tests.{ne_eqb}
use Rattle.device.proofs.function_commands.idle_command.Goals as goal

pub returns-in-68 : goal.returns-in-68
unfolding idle_command
returns-in-68 c =
    record { answer = simp (c.with_stage.ensures.answer, c.with_activity.ensures.answer, c.in-68.is) }

pub returns-in-78 : goal.returns-in-78
unfolding idle_command
returns-in-78 c =
    record { answer = simp (c.with_stage-in-78.ensures.answer, c.in-78.is) }

pub returns-in-72 : goal.returns-in-72
unfolding idle_command
returns-in-72 c =
    record { answer = simp (c.with_stage-in-72.ensures.answer, c.copying.ensures.answer, c.in-72.is) }

pub returns-in-184 : goal.returns-in-184
unfolding idle_command
returns-in-184 c =
    record { answer = simp (c.with_stage-in-184.ensures.answer, c.recalled.ensures.answer, c.in-184.is) }

pub returns-in_default : goal.returns-in_default
unfolding idle_command
returns-in_default c =
    record {
      answer = let other = c.in_default.in_default-own.rest in
          simp (
            c.with_stage-in_default.ensures.answer,
            ne_eqb _ _ other.0.0.0.1,
            ne_eqb _ _ other.0.0.1,
            ne_eqb _ _ other.0.1,
            ne_eqb _ _ other.1,
          );
    }
