-- The third setting is the configuration.
use borrow.Author.Tests.{eq-eqb, ne_eqb}
use Rattle.device.proofs.function_commands.setting_byte.Goals as goal

pub returns-then-k-eq2 : goal.returns-then-k-eq2
returns-then-k-eq2 c =
    record { answer = simp (eq-eqb _ _ c.if-k-eq2.true, c.kept_configuration.ensures.answer) }

pub returns : goal.returns
returns c =
    record { answer = simp (ne_eqb _ _ c.if-k-eq2.false) }
