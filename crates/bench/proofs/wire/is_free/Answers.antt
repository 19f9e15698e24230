-- std's word for the answer, then ours; the places that are looked at are those of the count.
use Rattle.std.proofs.Common.{rules, tests, ◌≡◌, ◌∙◌, ap, take, length, not}
use Rattle.std.proofs.lemmas.Iterator.{YieldsList-from_slice}
use Rattle.std.proofs.lemmas.Iterator.Search.{all_from_yields_List}
use Rattle.basic_laws.specs.Fold.{all}
use Rattle.device.specs.Record.{holds_wire}
use Rattle.bench.proofs.Chains.{all-listed, taken_places}
use Rattle.bench.proofs.wire.is_free.Goals as goal

pub returns : goal.returns
returns c = record {
  answer =
      let a = c.args in
      let long : length a.devices ≡ 32 = search rules in
      all_from_yields_List (λ d. not (holds_wire d)) _ _ _ c.all.ensures.ran
      (YieldsList-from_slice (take c.places.result a.devices) (cc)) (λ x b q k. search (rules, tests))
      ∙ all-listed _ _ ∙ ap (all (λ d. not (holds_wire d))) (taken_places _ 32 _ _ long c.places.ensures.answer);
}
