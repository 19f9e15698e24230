-- The triples are looked at before the code.
use Rattle.naming.proofs.name_pass.Goals as goal

pub returns-then-pass : goal.returns-then-pass
returns-then-pass c =
    simp (c.if-pass.true, c.name_coded.ensures)

pub returns : goal.returns
returns c =
    simp (c.if-pass.false, c.refuse.ensures.answer)
