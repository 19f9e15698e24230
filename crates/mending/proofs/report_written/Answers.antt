-- By the test of the definition.
use Rattle.std.proofs.Common.{eq-eqb, ne_eqb}
use Rattle.mending.proofs.report_written.Goals as goal

pub returns-then-altered-eq0 : goal.returns-then-altered-eq0
returns-then-altered-eq0 c =
    rw (eq-eqb c.args.altered 0 c.if-altered-eq0.true)

pub returns-else-altered-eq0 : goal.returns-else-altered-eq0
returns-else-altered-eq0 c =
    rw (ne_eqb c.args.altered 0 c.if-altered-eq0.false)
