-- A refused edge, and one that is taken.
use mathlib.Core.Bool.{false}
use Rattle.captures.specs.declared.edges.Reader.{Reader}
use Rattle.captures.proofs.EdgesLaws.{edge-refused, edge-taken}
use mathlib.Core.Path.{ap, ◌∙◌}
use Rattle.captures.proofs.edges.on_edge.Goals as goal

pub returns-then-refusal-ne-ACCEPTED : goal.returns-then-refusal-ne-ACCEPTED
returns-then-refusal-ne-ACCEPTED c =
    ap (λ (x : Reader). record { closes = false; reader = x }) c.refuse.ensures
    ∙ edge-refused _ _ c.if-refusal-ne-ACCEPTED.true

pub returns : goal.returns
returns c =
    rw c.none.ensures.answer (edge-taken _ _ c.if-refusal-ne-ACCEPTED.false)
