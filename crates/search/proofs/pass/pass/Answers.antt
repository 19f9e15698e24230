use Rattle.std.proofs.Common.{◌≡◌, ◌∙◌, refl, ap, sym, false}
use Rattle.std.proofs.lemmas.Bool.{not-true, not-false}
use Rattle.search_laws.specs.PassLoop.{steps-over}
use Rattle.master_rules.specs.Buses.{calls}
use Rattle.search.specs.Pass.{walk_of, begun-walk, walking_start, walking-turn, walking-end}
use Rattle.search.specs.declared.pass.Walk.{Walk}
use Rattle.search.proofs.pass.pass.Goals as goal

pub loop-place-init : goal.loop-place-init
loop-place-init c =
    rw (c.begin_pass-w.ensures.answer, begun-walk c.args.command c.args.bench) (walking_start _ _ _ refl)

-- where nobody answered, the places that are left change nothing
pub returns-then-not-w : goal.returns-then-not-w
returns-then-not-w c =
    record {
      answer = let k = c.loop-place.invariant in
          let silent : k.walked.answered ≡ false =
          sym (ap (λ (u : Walk). u.answered) k.is) ∙ not-true c.loop-place.w.answered c.if-not-w.true in
          k.is ∙ ap walk_of (sym (steps-over calls c.args.previous c.args.departure _ _ k.walked silent) ∙ k.comes);
    }

pub loop-place-preserved : goal.loop-place-preserved
loop-place-preserved c =
    rw c.take_bit-w.ensures.answer (walking-turn c.args.previous c.args.departure _ c.loop-place.place c.loop-place.w
    c.loop-place-test.true (not-false c.loop-place.w.answered c.if-not-w.false) c.loop-place.invariant)

pub returns : goal.returns
returns c =
    record { answer = walking-end _ _ _ _ _ c.loop-place-test.false c.loop-place.invariant }
