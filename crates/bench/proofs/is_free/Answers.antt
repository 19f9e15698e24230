-- The call's answer, of the devices that are there.
use Rattle.bench.specs.Bench.{free}
use Rattle.bench.proofs.is_free.Goals as goal

pub returns : goal.returns
unfolding free
returns c =
    record { answer = simp c.is_free.ensures.answer }
