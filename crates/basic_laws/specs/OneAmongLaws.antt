-- One element that is different from all others: kept by weaker claims and by a function on each, and what both claims
-- imply holds of each.
use Rattle.std.specs.Prelude.{List, [], ◌∷◌, map}
use Rattle.std.proofs.Common.{inl, inr}
use Rattle.basic_laws.specs.Each.{Each}
use Rattle.basic_laws.specs.EachLaws.{each-implies}
use Rattle.basic_laws.specs.OneAmong.{OneAmong}

-- what holds of the one and of the others holds of each
pub one_each : {A : Type 0} {P Q R : A → Type 0} → ((x : A) → P x → R x) → ((x : A) → Q x → R x) → (l : List A)
    → OneAmong P Q l → Each R l
one_each f g [] h = absurd h
one_each f g (x ∷ l) (inl h) = (f x h.0, each-implies g l h.1)
one_each f g (x ∷ l) (inr h) = (g x h.0, one_each f g l h.1)

pub one-implies : {A : Type 0} {P Q R S : A → Type 0} → ((x : A) → P x → R x) → ((x : A) → Q x → S x) → (l : List A)
    → OneAmong P Q l → OneAmong R S l
one-implies f g [] h = absurd h
one-implies f g (x ∷ l) (inl h) = inl (f x h.0, each-implies g l h.1)
one-implies f g (x ∷ l) (inr h) = inr (g x h.0, one-implies f g l h.1)

-- each of them changed by the same function
module _ {A B : Type 0} (P Q : A → Type 0) (R S : B → Type 0) (f : A → B) (p : (x : A) → P x → R (f x)) (q : (x : A)
    → Q x → S (f x)) where
  others-mapped : (l : List A) → Each Q l → Each S (map f l)
  others-mapped [] e = tt
  others-mapped (x ∷ l) e = (q x e.0, others-mapped l e.1)

  pub one-mapped : (l : List A) → OneAmong P Q l → OneAmong R S (map f l)
  one-mapped [] h = absurd h
  one-mapped (x ∷ l) (inl h) = inl (p x h.0, others-mapped l h.1)
  one-mapped (x ∷ l) (inr h) = inr (q x h.0, one-mapped l h.1)
