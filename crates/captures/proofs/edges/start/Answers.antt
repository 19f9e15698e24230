-- A line without a character and a line that has not fallen.
use Rattle.captures.proofs.edges.start.Goals as goal

pub returns : goal.returns
returns c =
    record { answer = rw (c.none.ensures.answer, c.idle.ensures.answer) }
