-- The record is the definition's.
use Rattle.bench.specs.Bench.{vacant}
use Rattle.bench.proofs.vacant_place.Goals as goal

pub returns : goal.returns
unfolding vacant
returns c =
    record { answer = simp c.join.ensures.answer }
