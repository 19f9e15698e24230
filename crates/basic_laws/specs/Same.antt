-- Two lists side by side: whether they are the same, and how far they go alike.
--     same v w             whether two lists of numbers are the same, element by element
--     alike p l m          how many elements from the front go alike by the test p, up to the first two that do not, or
--                          to the end of either list
use Rattle.std.specs.Prelude.{ℕ, suc, Bool, true, false, ◌&&◌, List, [], ◌∷◌, eqb}
use Rattle.std.specs.Prelude.{if◌then◌else◌}

unfoldable pub same : List ℕ → List ℕ → Bool
same [] [] = true
same [] (y ∷ w) = false
same (x ∷ v) [] = false
same (x ∷ v) (y ∷ w) = eqb x y && same v w

-- how many elements from the front go alike by a test
unfoldable pub alike : {A : Type 0} → (A → A → Bool) → List A → List A → ℕ
alike p [] m = 0
alike p (x ∷ l) [] = 0
alike p (x ∷ l) (y ∷ m) = if p x y then suc (alike p l m) else 0
