-- The front of a list changed element by element, as a loop over the first places of an array leaves it.
--     map_front f n l      f of each of the first n elements, the others as they are; n past the end is the whole list
use Rattle.std.specs.Prelude.{ℕ, zero, suc, List, [], ◌∷◌}

unfoldable pub map_front : {A : Type 0} → (A → A) → ℕ → List A → List A
map_front f zero l = l
map_front f (suc n) [] = []
map_front f (suc n) (x ∷ l) = f x ∷ map_front f n l
