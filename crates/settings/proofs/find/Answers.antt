use Rattle.std.proofs.Common.{rules, tests, ◌≡◌, ◌∙◌, sym, ap, length, take, eqb}
use Rattle.std.specs.Prelude.{position}
use Rattle.std.proofs.lemmas.Iterator.{YieldsList-from_slice}
use Rattle.std.proofs.lemmas.Iterator.Search.{position_from_yields_List}
use Rattle.bench.proofs.Chains.{taken_places, first-found, first-missed}
use Rattle.settings.specs.Store.{kept_at}
use Rattle.settings.specs.declared.Kept.TheVariants.{At, Nowhere}
use Rattle.settings.proofs.find.Goals as goal
use Rattle.settings.proofs.find.Goals.{After-position}

-- std's word for the answer
found : (c : After-position)
    → c.position.result ≡ position (λ e. eqb e.code c.args.code) (take c.args.store.count c.args.store.entries)
found c =
    let a = c.args in
    let long : length a.store.entries ≡ 32 = search rules in
    position_from_yields_List (λ e. eqb e.code a.code) _ _ c.position.result c.position.ensures.ran
    (YieldsList-from_slice (take c.min-taken.result a.store.entries) (cc)) (λ x b q k. search (rules, tests))
    ∙ ap (position (λ e. eqb e.code a.code)) (taken_places _ 32 _ _ long c.min-taken.ensures)

pub returns-in-Some : goal.returns-in-Some
unfolding kept_at
returns-in-Some c = first-found _ At Nowhere _ _ (sym c.in-Some.is ∙ found (goal.at.returns-in-Some c).After-position)

pub returns-in-None : goal.returns-in-None
unfolding kept_at
returns-in-None c = first-missed _ At Nowhere _ (sym c.in-None.is ∙ found (goal.at.returns-in-None c).After-position)
