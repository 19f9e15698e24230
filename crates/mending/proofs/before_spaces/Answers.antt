use Rattle.std.proofs.Common.{◌∙◌, ap, ℕ, ◌-◌, length, rules, tests}
use Rattle.std.proofs.lemmas.Iterator.Adapters.{YieldsList-from_rev_slice}
use Rattle.std.proofs.lemmas.Iterator.Search.{YieldsList-from_take_while}
use Rattle.std.proofs.lemmas.Iterator.Consumers.{count_from_yields_List}
use Rattle.mending.specs.Mending.{is_space}
use Rattle.mending.proofs.SpacesLaws.{unspaced-size}
use Rattle.mending.proofs.before_spaces.Goals as goal

pub returns : goal.returns
returns c =
    let s = c.args.s.now in
    let spaces = count_from_yields_List _ _ c.count.ensures.ran (YieldsList-from_take_while _ is_space
    (YieldsList-from_rev_slice s (cc)) c.take_while.ensures.closure c.take_while.ensures.done
    (λ x b q k. search (rules, tests))) in
    ap (λ (n : ℕ). length s - n) spaces ∙ unspaced-size s
