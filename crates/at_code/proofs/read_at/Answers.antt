-- Refused by `admit`, or read. What a read comes to after every history is the claim of `access_laws`.
use Rattle.master_rules.specs.Access.{read_at}
use Rattle.access_laws.proofs.ReadLaws.{read-promised}
use borrow.Author.Tests.{eq-eqb, ne_eqb}
use Rattle.at_code.proofs.read_at.Goals as goal

pub returns-then-refusal-ne-ACCEPTED : goal.returns-then-refusal-ne-ACCEPTED
unfolding read_at
returns-then-refusal-ne-ACCEPTED c =
    record { answer = simp (← c.admit-refusal.ensures.answer, ne_eqb _ _ c.if-refusal-ne-ACCEPTED.true, c.refuse.ensures.answer); history = read-promised _ _ }

pub returns : goal.returns
unfolding read_at
returns c =
    record { answer = simp (← c.admit-refusal.ensures.answer, eq-eqb _ _ c.if-refusal-ne-ACCEPTED.false, c.read_back.ensures.answer); history = read-promised _ _ }
