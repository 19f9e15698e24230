-- BEh and B4h by their keys; at any other byte (`other`) a busy device goes quiet, and any other obeys.
use borrow.Author.Tests.{ne_eqb}
use Rattle.device.specs.Hear.{function_command}
use Rattle.device.proofs.function_commands.function_command.Goals as goal

pub returns-then-is_busy : goal.returns-then-is_busy
unfolding function_command
returns-then-is_busy c =
    record {
      answer = let other = c.in_default.in_default-own.rest in
          simp (
            ne_eqb _ _ other.0.1,
            ne_eqb _ _ other.1,
            ← c.is_busy.ensures.answer,
            c.if-is_busy.true,
            c.with_stage-then-is_busy.ensures.answer,
          );
    }

pub returns-in-190 : goal.returns-in-190
unfolding function_command
returns-in-190 c =
    record { answer = simp (c.with_stage.ensures.answer, c.in-190.is) }

pub returns-in-180 : goal.returns-in-180
unfolding function_command
returns-in-180 c =
    record { answer = simp (c.with_stage-in-180.ensures.answer, c.in-180.is) }

pub returns-else-is_busy : goal.returns-else-is_busy
unfolding function_command
returns-else-is_busy c =
    record {
      answer = let other = c.in_default.in_default-own.rest in
          simp (
            ne_eqb _ _ other.0.1,
            ne_eqb _ _ other.1,
            ← c.is_busy.ensures.answer,
            c.if-is_busy.false,
            c.idle_command.ensures.answer,
          );
    }
