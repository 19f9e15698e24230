use Rattle.std.proofs.Common.{ℕ, List, true, [], ◌∷◌, ◌≡◌, ◌≤◌, ◌+◌, length, refl, sym, ap, ◌∙◌, arith, rules, length-drop}
use Rattle.std.specs.Slice.Iter.{split_inclusive_rest}
use Rattle.std.proofs.lemmas.Fn.{always_returns_same}
use Rattle.text.specs.Laying.{lay_answer, lay_leaves}
use Rattle.frame.proofs.SplitLaws.{Parted, parted, split-before, split-left, split-fed, split-open}
use Rattle.mending.specs.Mending.{line_mended, mended_bytes}
use Rattle.mending.specs.declared.LineMended.{LineMended}
use Rattle.mending.proofs.Laws.{walking-told, walking-more, walking-done, walking-open}
use Rattle.mending.proofs.texts.mend_whole.Goals as goal
use Rattle.mending.proofs.texts.mend_whole.Goals.{After-strip_suffix}

-- the part that a turn splits off
here : (c : After-strip_suffix)
    → Parted c.args.s.now c.loop-line.at c.in-Some.line.now (split_inclusive_rest c.next.new.self)
here c =
    parted c.loop-line.invariant.left c.in-Some.ensures.steps
    (always_returns_same _ _ _ (λ a r f k. (search rules, search rules)))

pub loop-line-preserved : goal.loop-line-preserved
loop-line-preserved c =
    let s = c.args.s.now in
    let p = here (goal.at.loop-line-preserved c).After-strip_suffix in
    let cases = c.in-Some-strip_suffix.ensures.cases in
    let fed = split-fed _ _ _ _ p c.in-Some-strip_suffix.chars.now cases.1 cases.2 cases.0 in
    let before = split-before _ _ _ _ p in
    let told = walking-told s _ _ c.requires.0 c.requires.1 _ _ _ _ _ c.loop-line.invariant.walk _ before fed.0 fed.1 in
    let more = walking-more s _ _ c.requires.0 c.requires.1 _ _ _ _ _ c.loop-line.invariant.walk _ before fed.0 fed.1 in
    let mended = c.mend_line-mended in
    let noted = c.lay-noted in
    let answer = mended.ensures.answer
    ∙ ap (λ (cs : List ℕ). line_mended record { chars = cs; fed = true } c.loop-line.out c.loop-line.written) fed.2 in
    let report = ap (λ (m : LineMended). m.report) answer ∙ told in
    let next : c.loop-line.at + length c.in-Some-strip_suffix.chars.now + 1
    ≡ c.loop-line.at + length c.in-Some.line.now =
    omega (arith, cases.2) in
    record {
      callable = c.loop-line.invariant.callable;
      finite = search rules;
      left = split-left _ _ _ _ p;
      walk = rw next at (more mended.result.written mended.new.out (ap (λ (m : LineMended). m.written) answer)
          (mended.ensures.written
          ∙ ap (λ (cs : List ℕ). lay_leaves c.loop-line.out c.loop-line.written
          (mended_bytes record { chars = cs; fed = true })) fed.2)
          noted.result noted.new.out
          (noted.ensures.answer ∙ ap (λ (b : ℕ). lay_answer c.loop-line.report c.loop-line.lines (b ∷ [])) report)
          (noted.ensures.written ∙ ap (λ (b : ℕ). lay_leaves c.loop-line.report c.loop-line.lines (b ∷ [])) report));
    }

pub returns-in-None : goal.returns-in-None
returns-in-None c =
    let none = ap length (sym c.loop-line.invariant.left) ∙ c.in-None.ensures.steps.0 in
    let size = length-drop c.loop-line.at c.args.s.now in
    let past : length c.args.s.now ≤ c.loop-line.at = omega arith in
    let e = walking-done c.args.s.now _ _ c.requires.0 c.requires.1 _ _ _ _ _ c.loop-line.invariant.walk past in
    record { answer = e.0; written = e.1.0; reported = e.1.1 }

pub returns-in_default : goal.returns-in_default
returns-in_default c =
    let p = here (goal.at.returns-in_default c).After-strip_suffix in
    let open-end = split-open _ _ _ _ p (search rules) in
    let e = walking-open c.args.s.now _ _ c.requires.0 c.requires.1 _ _ _ _ _ c.loop-line.invariant.walk _
    (split-before _ _ _ _ p) refl open-end in
    record { answer = e.0; written = e.1.0; reported = e.1.1 }
