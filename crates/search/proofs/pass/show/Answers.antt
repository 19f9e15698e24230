-- The slot's line is pushed.
use Rattle.search.specs.Pass.{one_slot}
use Rattle.search.proofs.pass.show.Goals as goal

pub returns : goal.returns
unfolding one_slot
returns c =
    record { answer = simp (← c.slot-r.ensures.answer, c.push.ensures.answer) }
