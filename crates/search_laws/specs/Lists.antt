-- The passes of a search, each with the plan that the one before it leaves, go through the listing and end with it:
-- `lists`.
--     Lists n S plan cs      the passes over S from a plan on find cs, one code each, and the last leaves no plan
-- By induction on the codes' length: the passes over those that send 0 first, then the departure at this bit, then
-- those that send 1.
use Rattle.std.specs.Prelude.{◌≡◌, ℕ}
use Rattle.std.proofs.Math.Option.{Option, none, some}
use mathlib.Core.List.{List, [], ◌∷◌}
use Rattle.search_laws.specs.Codes.{Code}
use Rattle.search_laws.specs.Pass.{Triple, Plan, pass, found, next}

pub data Lists (n : ℕ) (S : List Code) : Option Plan → List Code → Type 0 where
  end : Lists n S none []
  more : (plan : Plan) (ts : List Triple) {cs : List Code} → pass n plan S ≡ some ts → Lists n S (next ts) cs
      → Lists n S (some plan) (found ts ∷ cs)
