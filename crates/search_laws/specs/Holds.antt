-- What every slot and every reset keeps is kept by a pass and by a search, on any bus: `pass-holds`, `search-holds`.
use Rattle.std.specs.Prelude.{Bool}
use Rattle.std.proofs.Math.Bool.{true}
use Rattle.std.proofs.Math.Option.{Option, none, some}
use mathlib.Core.List.{List, [], ◌∷◌}
use Prim.Native.Nat.{ℕ, zero, suc}
use Rattle.search_laws.specs.Codes.{first, other_bits}
use Rattle.search_laws.specs.Pass.{triple, Plan, choice, found, next}
use Rattle.search_laws.specs.PassLaws.{on_some_lem}
use Rattle.search_laws.specs.Wire.{Bus, Pass, passed, with_triple, Search, unanswered, with_code, slots, triplets}
use Rattle.search_laws.specs.Wire.{wire_pass, search_from, wire_search}

module _ (B : Bus) (Q : B.Devices → Type 0) (by-slot : (x : Bool) (ds : B.Devices) → Q ds → Q (B.after x ds)) where
  pub slots-hold : (xs : List Bool) (ds : B.Devices) → Q ds → Q (slots B xs ds).devices
  unfolding slots
  slots-hold [] ds q = q
  slots-hold (x ∷ xs) ds q = slots-hold xs (B.after x ds) (by-slot x ds q)

  triplets-hold : (n : ℕ) (plan : Plan) (ds : B.Devices) → Q ds → Q (triplets B n plan ds).devices
  unfolding triplets
  triplets-hold zero plan ds q = q
  triplets-hold (suc n) plan ds q =
      let once = B.after true ds in
      let twice = B.after true once in
      let r = by-slot true once (by-slot true ds q) in
      let a = B.line true ds in
      let b = B.line true once in
      let i : (d : Bool) → Q (triplets B n (other_bits plan) (B.after d twice)).devices =
      λ d. triplets-hold n (other_bits plan) (B.after d twice) (by-slot d twice r) in
      on_some_lem (λ (p : Pass B.Devices). Q p.devices) (choice a b (first plan)) (passed none (a ∷ b ∷ []) twice)
      (λ d. with_triple (triple a b d) (B.line d twice) (triplets B n (other_bits plan) (B.after d twice))) r i

  module _ (by-reset : (ds : B.Devices) → Q ds → Q (B.reset ds)) (command : List Bool) (n : ℕ) where
    pub pass-holds : (plan : Plan) (ds : B.Devices) → Q ds → Q (wire_pass B command n plan ds).devices
    pass-holds plan ds q = triplets-hold n plan (slots B command (B.reset ds)).devices
        (slots-hold command (B.reset ds) (by-reset ds q))

    search-from-holds : (fuel : ℕ) (o : Option Plan) (ds : B.Devices) → Q ds
        → Q (search_from B command fuel n o ds).devices
    unfolding search_from
    search-from-holds zero o ds q = q
    search-from-holds (suc fuel) none ds q = q
    search-from-holds (suc fuel) (some plan) ds q =
        let p = wire_pass B command n plan ds in
        let r = pass-holds plan ds q in
        let i : (o : Option Plan) → Q (search_from B command fuel n o p.devices).devices =
        λ o. search-from-holds fuel o p.devices r in
        on_some_lem (λ (s : Search B.Devices). Q s.devices) p.triples (unanswered p)
        (λ ts. with_code (found ts) p.lines (search_from B command fuel n (next ts) p.devices)) r
        (λ ts. i (next ts))

    pub search-holds : (fuel : ℕ) (ds : B.Devices) → Q ds → Q (wire_search B command fuel n ds).devices
    search-holds fuel ds q = search-from-holds _ _ ds q
