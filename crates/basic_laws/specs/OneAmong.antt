-- A list in which one element is different from all others.
--     OneAmong P Q l     P holds of one of l, and Q of each other
use Rattle.std.specs.Prelude.{List, [], ◌∷◌, ◌⊎◌}
use Rattle.basic_laws.specs.Each.{Each}

abbrev pub OneAmong : {A : Type 0} → (A → Type 0) → (A → Type 0) → List A → Type 0
OneAmong P Q [] = ⊥
OneAmong P Q (x ∷ l) = (P x × Each Q l) ⊎ (Q x × OneAmong P Q l)
