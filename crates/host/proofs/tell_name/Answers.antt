-- The number is that of the name.
use Rattle.host.proofs.tell_name.Goals as goal

pub returns : goal.returns
returns c =
    simp c.number_told.ensures
