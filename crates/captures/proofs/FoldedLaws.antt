-- A fold as a chain of iterators makes it.
use Rattle.std.specs.Prelude.{◌≡◌, List, [], ◌∷◌}
use Rattle.std.proofs.Common.{refl}
use Rattle.std.specs.List as chain
use Rattle.basic_laws.specs.Fold.{fold}

pub folded : {A B : Type 0} (op : B → A → B) (b : B) (l : List A) → chain.fold op b l ≡ fold op b l
unfolding fold
folded op b [] = refl
folded op b (x ∷ l) = folded op (op b x) l
