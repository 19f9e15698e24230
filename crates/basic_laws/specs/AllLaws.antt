-- `all` as an iterator's `all` tells it.
--     all-of       it holds of a list if it holds of each element
--     all_told     the iterator's answer is that of `all`
use Rattle.std.specs.Prelude.{◌≡◌, ◌↔◌, Bool, true, false, List, [], ◌∷◌, All, IsTrue}
use Rattle.std.proofs.Common.{refl, sym, ◌∙◌, suc, arith}
use Rattle.basic_laws.specs.Fold.{all}
use Rattle.basic_laws.specs.FoldLaws.{all-at}

pub all-of : {A : Type 0} (p : A → Bool) (l : List A) → All (λ x. IsTrue (p x)) l → all p l ≡ true
unfolding all
all-of p [] h = refl
all-of p (x ∷ l) h =
    rw (h 0 x (omega arith)) (all-of p l (λ k d below. h (suc k) d (omega arith)))

pub all_told : {A : Type 0} (p : A → Bool) (l : List A) (r : Bool) → IsTrue r ↔ All (λ x. IsTrue (p x)) l → r ≡ all p l
all_told p l true h = sym (all-of p l (h.0 refl))
all_told p l false h = by-test (all p l) refl
  where
    by-test : (t : Bool) → all p l ≡ t → false ≡ all p l
    by-test true e = h.1 (λ k d below. all-at p l d k below e) ∙ sym e
    by-test false e = sym e
