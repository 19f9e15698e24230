-- std's word for the answer, then ours; the places that are looked at are those of the count.
use Rattle.std.proofs.Common.{rules, tests, ◌≡◌, ◌∙◌, ap, take, length}
use Rattle.std.proofs.lemmas.Iterator.{YieldsList-from_slice}
use Rattle.std.proofs.lemmas.Iterator.Consumers.{fold_from_yields_List}
use Rattle.basic_laws.specs.Fold.{fold}
use Rattle.bench.proofs.Chains.{folded, taken_places}
use Rattle.search.specs.Standing.{survey_start, surveyed_with}
use Rattle.search.proofs.place.look_over.Goals as goal

pub returns : goal.returns
returns c =
    record {
      answer = let a = c.args in
          let long : length a.devices ≡ 32 = search rules in
          fold_from_yields_List _ (surveyed_with a.place) survey_start _ c.fold.ensures.ran
          (YieldsList-from_slice (take c.places.result a.devices) (cc)) (λ s x t q k. search (rules, tests))
          ∙ folded _ _ _
          ∙ ap (fold (surveyed_with a.place) survey_start) (taken_places _ 32 _ _ long c.places.ensures.answer);
    }
