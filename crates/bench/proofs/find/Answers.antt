use Rattle.std.proofs.Common.{rules, tests, ◌≡◌, ◌∙◌, sym, ap, length, take, eqb}
use Rattle.std.specs.Prelude.{position}
use Rattle.std.proofs.lemmas.Iterator.{YieldsList-from_slice}
use Rattle.std.proofs.lemmas.Iterator.Search.{position_from_yields_List}
use Rattle.bench.specs.Bench.{live, place_of}
use Rattle.bench.specs.declared.Place.TheVariants.{At, Nowhere}
use Rattle.bench.proofs.Chains.{taken_places, first-found, first-missed}
use Rattle.bench.proofs.find.Goals as goal
use Rattle.bench.proofs.find.Goals.{After-position}

-- std's word for the answer
found : (c : After-position) → c.position.result ≡ position (λ d. eqb d.code c.args.code) (live c.args.bench)
found c =
    let a = c.args in
    let long : length a.bench.devices ≡ 32 = search rules in
    position_from_yields_List (λ d. eqb d.code a.code) _ _ c.position.result c.position.ensures.ran
    (YieldsList-from_slice (take c.places-taken.result a.bench.devices) (cc)) (λ x b q k. search (rules, tests))
    ∙ ap (position (λ d. eqb d.code a.code)) (taken_places _ 32 _ _ long c.places-taken.ensures.answer)

pub returns-in-Some : goal.returns-in-Some
unfolding place_of
returns-in-Some c =
    let told = found (goal.at.returns-in-Some c).After-position in
    record { answer = first-found _ At Nowhere _ _ (sym c.in-Some.is ∙ told) }

pub returns-in-None : goal.returns-in-None
unfolding place_of
returns-in-None c =
    let told = found (goal.at.returns-in-None c).After-position in
    record { answer = first-missed _ At Nowhere _ (sym c.in-None.is ∙ told) }
