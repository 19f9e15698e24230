-- std's word for the answer, then ours.
use Rattle.std.proofs.Common.{rules, tests, ◌∙◌, not, eqb}
use Rattle.std.proofs.lemmas.Iterator.{YieldsList-from_slice}
use Rattle.std.proofs.lemmas.Iterator.Search.{all_from_yields_List}
use Rattle.bench.proofs.Chains.{all-listed}
use Rattle.bench.proofs.is_absent.Goals as goal

pub returns : goal.returns
returns c = record {
  answer =
      all_from_yields_List (λ d. not (eqb d.code c.args.code)) _ _ _ c.all.ensures.ran
      (YieldsList-from_slice c.args.devices.now (cc)) (λ x b q k. search (rules, tests))
      ∙ all-listed _ _;
}
