use Rattle.std.proofs.Common.{refl, ◌∙◌}
use Rattle.basic_laws.specs.Fold.{fold}
use Rattle.basic_laws.specs.FoldLaws.{fold_step}
use Rattle.captures.specs.Partial.{longer_partial}
use Rattle.captures.proofs.edge_lines.gather.Goals as goal

pub loop-c-init : goal.loop-c-init
unfolding fold
loop-c-init l = refl

pub loop-c-preserved : goal.loop-c-preserved
loop-c-preserved l =
    l.lengthen-held.ensures ∙ rw l.loop-c.invariant (fold_step longer_partial _ _ _ _ l.loop-c-test.true)
