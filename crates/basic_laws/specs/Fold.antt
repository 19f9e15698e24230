-- A list worked into a value from the left, as a loop with an accumulator does it.
--     fold op b l      op (.. (op (op b x₀) x₁) ..) xₙ; b for the empty list
--     all p l          whether p holds of every element; true for the empty list
use Rattle.std.specs.Prelude.{Bool, true, ◌&&◌, List, [], ◌∷◌}

unfoldable pub fold : {A B : Type 0} → (B → A → B) → B → List A → B
fold op b [] = b
fold op b (x ∷ l) = fold op (op b x) l

unfoldable pub all : {A : Type 0} → (A → Bool) → List A → Bool
all p [] = true
all p (x ∷ l) = p x && all p l
