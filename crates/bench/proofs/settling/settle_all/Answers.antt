use Rattle.std.proofs.Common.{rules, ◌≡◌, ◌∙◌, ap, sym, length, not}
use Rattle.std.proofs.lemmas.List.{set-get_or}
use Rattle.basic_laws.specs.FrontLaws.{front-none, front-more}
use Rattle.bench.specs.Taken.{front_kept}
use Rattle.bench.specs.Settling.{settled_of, settled-quiet}
use Rattle.bench.proofs.Chains.{front_rejoined}
use Rattle.bench.proofs.settling.settle_all.Goals as goal
use Rattle.bench.proofs.settling.settle_all.Goals.{then-not-is_quiet, else-not-is_quiet}

pub loop-d-init : goal.loop-d-init
loop-d-init c =
    front-none _ _

pub loop-d-preserved : goal.loop-d-preserved
loop-d-preserved c =
    let quiet = ap not (sym c.is_quiet.ensures.answer) in
    elim c.if-not-is_quiet.branch [
      | then-not-is_quiet w ↦ w.d-items-is ∙ rw (w.settled.ensures.answer, c.loop-d.invariant) (front-more _ _ _ _)
      | else-not-is_quiet w ↦ w.d-items-is ∙ set-get_or _ _ _
          ∙ front_kept _ _ _ _ _ c.loop-d.invariant c.loop-d-test.true
          (settled-quiet c.args.place c.args.bit _ (quiet ∙ ap not w.if-not-is_quiet.false))
    ]

pub returns : goal.returns
returns c =
    record {
      answer = let long : length c.args.devices ≡ 32 = search rules in
          front_rejoined (settled_of c.args.place c.args.bit) _ 32 _ _ _ _ long c.places.ensures.answer
          c.loop-d.invariant c.loop-d-test.false;
    }
