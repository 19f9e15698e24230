-- The first element of a list that passes a test, as a loop with an early return finds it.
--     first_with p f z k l      f of the place of the first that passes, places counted from k; z where none passes
--     first_at v l              how many stand before the first that is v; all where none is
use Rattle.std.specs.Prelude.{ℕ, suc, Bool, List, [], ◌∷◌, eqb}
use Rattle.std.specs.Prelude.{if◌then◌else◌}

unfoldable pub first_with : {A R : Type 0} → (A → Bool) → (ℕ → R) → R → ℕ → List A → R
first_with p f z k [] = z
first_with p f z k (x ∷ l) = if p x then f k else first_with p f z (suc k) l

unfoldable pub first_at : ℕ → List ℕ → ℕ
first_at v [] = 0
first_at v (c ∷ l) = if eqb c v then 0 else suc (first_at v l)
