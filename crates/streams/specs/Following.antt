-- What is said of one read.
--     After R f s g           where bytes lead, by R, from f: nowhere else where there are none
--     Fits P n                so many bytes have room where P holds
use Rattle.std.specs.Prelude.{ℕ, ◌≤◌, ◌≡◌, List, [], ◌∷◌}

abbrev pub After : {F : Type 0} → (F → List ℕ → F → Type 0) → F → List ℕ → F → Type 0
After R f [] g = f ≡ g
After R f (b ∷ bs) g = R f (b ∷ bs) g

-- n bytes of a buffer whose length is allowed
pub record Fits (P : ℕ → Type 0) (n : ℕ) : Type 0 where
  pub size : ℕ
  pub allowed : P size
  pub within : n ≤ size
