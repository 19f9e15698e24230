-- By the empty bench.
use Rattle.packed_bench.proofs.table.refuse.Goals as goal

pub returns : goal.returns
returns c =
    rw c.new.ensures.answer
