-- What is read is named.
use mathlib.Core.Path.{ap, ◌∙◌}
use Rattle.naming.specs.Naming.{name_of_read}
use Rattle.naming.specs.Laws.{line_read}
use Rattle.naming.proofs.name_line.Goals as goal

pub returns : goal.returns
returns c =
    record { answer = c.name_read.ensures ∙ ap name_of_read c.read_line.ensures.answer ∙ line_read 0 _ }
