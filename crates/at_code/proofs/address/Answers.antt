-- Three sends one behind the other: 55h, the code, the command.
use Rattle.master_rules.specs.Access.{addressed}
use Rattle.at_code.proofs.address.Goals as goal

pub returns : goal.returns
unfolding addressed
returns c =
    record { answer = simp (c.send-matching.ensures.answer, c.send-matched.ensures.answer, c.send.ensures.answer) }
