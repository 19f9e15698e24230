-- What is said of each element of a list, of each two, and those that pass a test.
--     Each P l          P holds of each of l
--     Pairs R l         R holds of each two of l, the earlier one first
--     Distinct l        no two of l are the same
--     Along R l m       l and m are as long, and R holds of each two at the same place
--     those p l         those of l that pass the test p, in their order
use Rattle.std.specs.Prelude.{◌≢◌, List, [], ◌∷◌, Bool}
use Rattle.std.specs.Prelude.{if◌then◌else◌}

-- ## What is said of a list

abbrev pub Each : {A : Type 0} → (A → Type 0) → List A → Type 0
Each P [] = Unit
Each P (x ∷ l) = P x × Each P l

abbrev pub Pairs : {A : Type 0} → (A → A → Type 0) → List A → Type 0
Pairs R [] = Unit
Pairs R (x ∷ l) = Each (R x) l × Pairs R l

abbrev pub Distinct : {A : Type 0} → List A → Type 0
Distinct = Pairs (λ x y. x ≢ y)

unfoldable pub those : {A : Type 0} → (A → Bool) → List A → List A
those p [] = []
those p (x ∷ l) = if p x then x ∷ those p l else those p l

abbrev pub Along : {A B : Type 0} → (A → B → Type 0) → List A → List B → Type 0
Along R [] [] = Unit
Along R [] (y ∷ m) = ⊥
Along R (x ∷ l) [] = ⊥
Along R (x ∷ l) (y ∷ m) = R x y × Along R l m
