-- The line ends behind its feed, which belongs to it, or at the end of the data.
use Rattle.text.specs.LinesLaws.{behind-open}
use Rattle.text.proofs.lines.line_behind.Goals as goal

pub returns-else-end-s : goal.returns-else-end-s
returns-else-end-s c =
    record { answer = behind-open c.args.s.now c.args.at c.line_end-end.result c.line_end-end.ensures.answer c.if-end-s.false }
