-- Behind a refusal no byte changes anything, so the loop may end there.
use Rattle.std.proofs.Common.{List, ℕ, [], ◌++◌, ◌≡◌, refl, sym, ap, ◌∙◌, rules}
use Rattle.std.proofs.lemmas.List.{nil_from_length}
use Rattle.std.proofs.lemmas.Fn.{always_returns_same}
use Rattle.std.specs.Slice.Iter.{split_inclusive_rest}
use Rattle.basic_laws.specs.Fold.{fold}
use Rattle.basic_laws.specs.FoldLaws.{fold-append}
use Rattle.refusals.specs.Refusals.{accepted}
use Rattle.frame.proofs.SplitLaws.{parted, split-plain}
use Rattle.captures.specs.Edges.{Reading, on_byte, answers_of}
use Rattle.captures.proofs.EdgesLaws.{refused-stays}
use Rattle.captures.proofs.edges.feed.Goals as goal
use Rattle.captures.proofs.edges.feed.Goals.{in-None, in-Some+then-held-ne-ACCEPTED}

pub returns-then-reader-ne-ACCEPTED : goal.returns-then-reader-ne-ACCEPTED
returns-then-reader-ne-ACCEPTED c =
    let x : Reading = record { reader = c.args.reader; out = c.args.out.now } in
    let stays = sym (refused-stays x c.if-reader-ne-ACCEPTED.true c.args.s.now) in
    record {
      answer = c.answer_of.ensures ∙ ap (λ (y : Reading). answers_of y.reader) stays;
      written = ap (λ (y : Reading). y.out) stays;
    }

-- A piece makes z of x. Where nothing is left of it, x is z; else what is left behind its first line makes z of y, which
-- the line came to, and where that is a refusal, y is z.
ended : (x z : Reading) (s : List ℕ) → s ≡ [] → fold on_byte x s ≡ z → x ≡ z
unfolding fold
ended x z s none coming = ap (fold on_byte x) (sym none) ∙ coming

module _ (x y z : Reading) (s line left : List ℕ) (cut : s ≡ line ++ left) (own : fold on_byte x line ≡ y)
    (coming : fold on_byte x s ≡ z) where
  goes-on : fold on_byte y left ≡ z
  goes-on = ap (λ (r : Reading). fold on_byte r left) (sym own) ∙ sym (fold-append on_byte x line left)
      ∙ ap (fold on_byte x) (sym cut) ∙ coming

  left-off : (y.reader.refusal ≡ accepted → ⊥) → y ≡ z
  left-off h = sym (refused-stays y h left) ∙ goes-on

pub loop-line-preserved : goal.loop-line-preserved
loop-line-preserved c =
    let before = c.loop-line.invariant in
    record {
      callable = before.callable;
      finite = search rules;
      size = c.feed_line-held.auto.out ∙ before.size;
      well = c.if-held-ne-ACCEPTED.false;
      coming = goes-on _ _ _ _ _ _ c.in-Some.ensures.steps.0 c.feed_line-held.ensures.answer before.coming;
    }

pub returns : goal.returns
returns c =
    let x : Reading = record { reader = c.match-next.held; out = c.match-next.out } in
    let coming = c.loop-line.invariant.coming in
    let whole : x ≡ fold on_byte record { reader = c.args.reader; out = c.args.out.now } c.args.s.now =
    elim c.match-next.branch [
      | in-None w ↦ rw (w.held-is, w.out-is)
          (ended _ _ _ (nil_from_length _ w.in-None.ensures.steps.0) coming)
      | in-Some+then-held-ne-ACCEPTED w ↦ rw (w.held-is, w.out-is)
          (left-off _ _ _ _ _ _ w.in-Some.ensures.steps.0 w.feed_line-held.ensures.answer coming
          w.if-held-ne-ACCEPTED.true)
    ] in
    record {
      answer = c.answer_of-2.ensures ∙ ap (λ (y : Reading). answers_of y.reader) whole;
      written = ap (λ (y : Reading). y.out) whole;
    }

pub feed_line-held-requires : goal.feed_line-held-requires
feed_line-held-requires c = (
  c.loop-line.invariant.well,
  split-plain (split_inclusive_rest c.loop-line.line-iterator) 0 _ _ (parted refl c.in-Some.ensures.steps
      (always_returns_same _ _ _ (λ a r f k. (search rules, search rules)))),
)
