-- Who takes part, as those of the devices that pass a test.
use Rattle.std.specs.Prelude.{◌≡◌, refl, Bool, true, false, List, [], ◌∷◌, map, ℕ}
use Rattle.std.specs.Prelude.{if◌then◌else◌}
use Rattle.basic_laws.specs.Each.{those}
use Rattle.search_laws.specs.Searchers.{Model, Searchers, participants}

pub participants-those : {M : Model} {command : List Bool} {n : ℕ} (Z : Searchers M command n) (ds : List M.Dev)
    → participants Z ds ≡ map Z.code (those Z.joins ds)
unfolding participants those
participants-those Z [] = refl
participants-those Z (d ∷ ds) = let i = participants-those Z ds in rw i (by-test (Z.joins d))
  where
    by-test : (t : Bool) → (if t then Z.code d ∷ map Z.code (those Z.joins ds)
        else map Z.code (those Z.joins ds))
        ≡ map Z.code (if t then d ∷ those Z.joins ds else those Z.joins ds)
    by-test true = refl
    by-test false = refl
