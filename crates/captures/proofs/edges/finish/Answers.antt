-- The reader has just started.
use Rattle.captures.proofs.edges.finish.Goals as goal

pub returns : goal.returns
returns c =
    rw c.start.ensures.answer
