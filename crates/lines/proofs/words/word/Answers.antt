-- The part that stands at the place among those between spaces; the other slice is the empty word.
use Rattle.std.proofs.Common.{◌≡◌, ◌∙◌, ap, refl, rules, eqb, List, [], ℕ, Option, Some, None}
use Rattle.std.proofs.lemmas.Iterator.Consumers.{nth_from_yields_List}
use Rattle.std.proofs.lemmas.Iterator.Splits.{YieldsList-from_slice_split}
use Rattle.std.proofs.lemmas.Option.{unwrap_or-slice_get}
use Rattle.std.specs.Option.{unwrap_or, option_map}
use denote.Ref.{Bor}
use Rattle.text.specs.Lines.{space}
use Rattle.lines.specs.Words.{words_of}
use Rattle.lines.specs.WordsLaws.{words-split}
use Rattle.lines.proofs.words.word.Goals as goal

-- what stands behind a reference where there is one
behind : (r : Option (Bor (List ℕ))) (d : Bor (List ℕ))
    → (unwrap_or r d).now ≡ unwrap_or (option_map (λ x. x.now) r) d.now
behind None d = refl
behind (Some x) d = refl

pub returns : goal.returns
returns c =
    record {
      answer = let line = c.args.line.now in
          let found = nth_from_yields_List c.nth.result _ c.args.k c.nth.ensures.ran
          (YieldsList-from_slice_split _ (λ b. eqb b space) line (search rules) (search rules) refl
          (λ x b q k. search rules)) in
          rw c.unwrap_or.ensures (behind c.nth.result _ ∙ ap (λ o. unwrap_or o []) (rw (words-split line) at found)
          ∙ unwrap_or-slice_get (words_of line) c.args.k []);
    }
