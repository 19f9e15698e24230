-- By presence: the nine bytes fetched, or 4.
use Rattle.master_rules.specs.Access.{read_back}
use Rattle.at_code.proofs.read_back.Goals as goal

pub returns-then-r : goal.returns-then-r
unfolding read_back
returns-then-r c =
    record { answer = simp (← c.reset-r.ensures.answer, c.if-r.true, c.fetch.ensures.answer) }

pub returns : goal.returns
unfolding read_back
returns c =
    record { answer = simp (← c.reset-r.ensures.answer, c.if-r.false, c.refuse.ensures.answer) }
