use Rattle.std.proofs.Common.{◌≡◌, ◌+◌, ℕ, length, sym, ap, ◌∙◌, rules, arith, length-drop}
use mathlib.Core.Logic.{inl, inr}
use Rattle.std.proofs.lemmas.Bool.{not-true, not-false}
use Rattle.std.proofs.lemmas.Fn.{always_returns_same}
use Rattle.std.specs.Iterator.Adapters.{zip_first}
use Rattle.std.specs.Slice.Iter.{split_inclusive_rest}
use Rattle.std.specs.Cmp.Lexicographic.{same_text, other_text}
use Rattle.comparing.specs.DepartureLaws.{walk-on, walk-differs, walk-other-ended, walk-ended, walk-equal}
use Rattle.comparing.proofs.SplitLaws.{Split, split, split-before, split-left, split-width, split-same, split-other}
use Rattle.comparing.proofs.compare.Goals as goal
use Rattle.comparing.proofs.compare.Goals.{in-None, in-Some+then-ne}

pub loop-line-preserved : goal.loop-line-preserved
loop-line-preserved c =
    let steps = c.in-Some.ensures.steps in
    let p : Split c.args.reference.now c.loop-line.at c.in-Some.line.now
    (split_inclusive_rest (zip_first c.next.new.self)) =
    split c.loop-line.invariant.left steps.0 (always_returns_same _ _ _ (λ a r f k. (search rules, search rules))) in
    let q = split c.loop-line.invariant.left_other steps.1
    (always_returns_same _ _ _ (λ a r f k. (search rules, search rules))) in
    let equal : c.in-Some.line.now ≡ c.in-Some.other_line.now =
    same_text _ _ (sym (not-false _ (sym c.ne.ensures ∙ c.if-ne.false))) in
    record {
      callable = c.loop-line.invariant.callable;
      finite = search rules;
      left = split-left _ _ _ _ p;
      left_other = rw equal (split-left _ _ _ _ q);
      walked = walk-on _ _ _ _ c.loop-line.invariant.walked (split-before _ _ _ _ p) (split-before _ _ _ _ q)
          (split-same _ _ _ _ _ _ _ p q equal) _ (ap (λ (n : ℕ). c.loop-line.at + n) (sym (split-width _ _ _ _ p)));
    }

pub returns-then-at-reference : goal.returns-then-at-reference
returns-then-at-reference c =
    let r = c.args.reference.now in
    let o = c.args.other.now in
    let at = c.loop-line.at in
    let walked = c.loop-line.invariant.walked in
    record {
      answer = c.behind_shared.ensures
          ∙ (elim c.match-next.branch [
            | in-None w ↦ walk-other-ended r o at c.loop-line.shared walked c.if-at-reference.true
                (elim w.in-None.ensures.steps [
                  | inl h ↦ let none = ap length (sym c.loop-line.invariant.left) ∙ h.1.0 in
                      let size = length-drop at r in
                      omega arith
                  | inr h ↦ let none = ap length (sym c.loop-line.invariant.left_other) ∙ h.1.0 in
                      let size = length-drop at o in
                      omega arith
                ])
            | in-Some+then-ne w ↦ let steps = w.in-Some.ensures.steps in
                let p = split c.loop-line.invariant.left steps.0
                (always_returns_same _ _ _ (λ a r f k. (search rules, search rules))) in
                let q = split c.loop-line.invariant.left_other steps.1
                (always_returns_same _ _ _ (λ a r f k. (search rules, search rules))) in
                walk-differs r o at c.loop-line.shared walked c.if-at-reference.true (split-before _ _ _ _ q)
                (split-other _ _ _ _ _ _ _ p q (other_text _ _ (sym (not-true _ (sym w.ne.ensures ∙ w.if-ne.true)))))
          ]);
    }

pub returns-then-at-other : goal.returns-then-at-other
returns-then-at-other c =
    record {
      answer = c.behind_shared-then-at-other.ensures
          ∙ walk-ended c.args.reference.now c.args.other.now c.loop-line.at c.loop-line.shared
          c.loop-line.invariant.walked c.if-at-reference.false c.if-at-other.true;
    }

pub returns : goal.returns
returns c =
    record {
      answer = walk-equal c.args.reference.now c.args.other.now c.loop-line.at c.loop-line.shared
          c.loop-line.invariant.walked c.if-at-reference.false c.if-at-other.false;
    }
