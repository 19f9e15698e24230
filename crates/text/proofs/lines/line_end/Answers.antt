use Rattle.std.proofs.Common.{arith}
use Rattle.text.specs.Lines.{line_feed}
use Rattle.basic_laws.specs.FirstLaws.{at-end}
use Rattle.text.proofs.lines.line_end.Goals as goal

pub returns-then-s-at : goal.returns-then-s-at
returns-then-s-at c = record { answer = rw (at-end line_feed c.args.s.now c.args.at (omega (arith, c.if-s-at.true))) }
