-- A device that a slot leaves as it is has heard it as it stands.
use Rattle.std.proofs.Common.{rules, ◌≡◌, ◌∙◌, ◌&&◌, true, false, not, ap, sym, refl, length, take, take_all}
use Rattle.std.proofs.lemmas.List.{set-get_or}
use Rattle.basic_laws.specs.Fold.{fold, all}
use Rattle.basic_laws.specs.FoldLaws.{all-passes, all-fails, all_end, all-fold, fold_step}
use Rattle.basic_laws.specs.FrontLaws.{front-none, front-more}
use Rattle.device.specs.Hear.{hear_of}
use Rattle.device.specs.Offer.{offer_of}
use Rattle.device.specs.Record.{holds_wire}
use Rattle.device.specs.StillLaws.{still-stays}
use Rattle.bench.specs.Taken.{front_kept}
use Rattle.bench.specs.Bench.{free}
use Rattle.bench.specs.Slot.{line_bit, heard, slotted}
use Rattle.bench.proofs.Chains.{taken_places, front_rejoined}
use Rattle.bench.proofs.slot.Goals as goal
use Rattle.bench.proofs.slot.Goals.{then-not-is_still, else-not-is_still}
use Rattle.bench.proofs.slot.Goals.{After-places-taken}

-- the places that are gone over are those of the count
front : (c : After-places-taken)
    → take c.places-taken.result c.args.bench.devices ≡ take c.args.bench.count c.args.bench.devices
front c =
    let long : length c.args.bench.devices ≡ 32 = search rules in
    taken_places _ 32 _ _ long c.places-taken.ensures.answer

pub loop-d-init : goal.loop-d-init
unfolding fold
loop-d-init c =
    record { shown = refl; free_on = refl }

pub returns-then-holds_wire : goal.returns-then-holds_wire
unfolding slotted free
returns-then-holds_wire c =
    record {
      answer = let held = ap not (sym c.holds_wire.ensures.answer ∙ c.if-holds_wire.true) in
          let stopped : all (λ d. not (holds_wire d)) (take c.args.bench.count c.args.bench.devices) ≡ false =
          ap (all (λ d. not (holds_wire d))) (sym (front (goal.at.returns-then-holds_wire c).After-places-taken))
          ∙ sym c.loop-d.invariant.free_on ∙ all-fails (λ d. not (holds_wire d)) _ _ _ c.loop-d-test.true held in
          rw stopped;
    }

pub loop-d-preserved : goal.loop-d-preserved
loop-d-preserved c =
    record {
      shown = rw (c.line_with-line.ensures.answer, c.loop-d.invariant.shown)
          (fold_step (λ b d. b && offer_of d) c.args.bit _ _ _ c.loop-d-test.true);
      free_on = sym (all-passes (λ d. not (holds_wire d)) _ _ _ c.loop-d-test.true
          (ap not (sym c.holds_wire.ensures.answer ∙ c.if-holds_wire.false))) ∙ c.loop-d.invariant.free_on;
    }

pub loop-d-2-init : goal.loop-d-2-init
loop-d-2-init c =
    front-none _ _

pub loop-d-2-preserved : goal.loop-d-2-preserved
loop-d-2-preserved c =
    elim c.if-not-is_still.branch [
      | then-not-is_still w ↦ w.d-items-is ∙ rw (w.hear.ensures.answer, c.loop-d-2.invariant) (front-more _ _ _ _)
      | else-not-is_still w ↦ w.d-items-is ∙ set-get_or _ _ _
          ∙ front_kept _ _ _ _ _ c.loop-d-2.invariant c.loop-d-2-test.true
          (still-stays _ _ (ap not (sym c.is_still.ensures.answer ∙ w.if-not-is_still.false)))
    ]

pub returns : goal.returns
unfolding slotted free line_bit heard
returns c =
    record {
      answer = let a = c.args in
          let n = a.bench.count in
          let t = a.bench.devices in
          let p = c.places-taken.result in
          let long : length t ≡ 32 = search rules in
          let taken = front (goal.at.returns c).After-places-taken in
          let shown : c.loop-d.line ≡ (a.bit && all offer_of (take n t)) =
          c.loop-d.invariant.shown
          ∙ ap (fold (λ b d. b && offer_of d) a.bit) (take_all _ (take p t) c.loop-d-test.false ∙ taken)
          ∙ all-fold offer_of a.bit (take n t) in
          let passed : all (λ d. not (holds_wire d)) (take n t) ≡ true =
          ap (all (λ d. not (holds_wire d))) (sym taken) ∙ sym c.loop-d.invariant.free_on
          ∙ all_end (λ d. not (holds_wire d)) _ _ c.loop-d-test.false in
          let after = front_rejoined (λ d. hear_of d c.loop-d.line) n 32 p _ t _ long c.places-taken.ensures.answer
          c.loop-d-2.invariant c.loop-d-2-test.false in
          rw (passed, ← shown, after);
    }
