-- Two lists compared as a loop compares them, and what follows where they are the same or go alike.
--     same-equal, same-itself                 the test of sameness is equality
--     same_told                               `==` of two slices is `same`
--     alike-within, alike-front, alike-parts  as many as go alike are in both lists, are the same, and the next two are
--                                             not
use Prim.Native.Nat.{ℕ, suc, ◌+◌, ◌<◌, ◌≤◌}
use Rattle.std.proofs.Math.Path.{◌≡◌, refl, ap}
use Rattle.std.proofs.Common.{sym, ◌∙◌, drop_of_length-le}
use Rattle.std.specs.Prelude.{Bool, ◌&&◌, eqb, get_or}
use Rattle.std.proofs.Common.{Decides}
use Rattle.std.proofs.Math.Bool.{true, false, false≢true}
use mathlib.Core.List.{List, [], ◌∷◌}
use native.Mathlib.Omega.{arith}
use Rattle.std.proofs.Math.Numerals.{add-one}
use borrow.Author.Tests.{eq-eqb, ne_eqb, eqb-true}
use Rattle.std.proofs.Math.ListN.{length, take, drop}
use Rattle.std.proofs.Math.Seq.{drop-cons}
use Rattle.std.specs.Prelude.{if◌then◌else◌}
use Rattle.basic_laws.specs.ChoiceLaws.{and_left, and_right}
use Rattle.basic_laws.specs.Same.{same, alike}

-- ## Whether two lists are the same

pub same-lengths : (v w : List ℕ) → (length v ≡ length w → ⊥) → same v w ≡ false
unfolding same
same-lengths [] [] h = absurd (h refl)
same-lengths [] (y ∷ w) h = refl
same-lengths (x ∷ v) [] h = refl
same-lengths (x ∷ v) (y ∷ w) h = both (eqb x y) (same-lengths v w (λ e. h (ap suc e)))
  where
    both : (t : Bool) → same v w ≡ false → (t && same v w) ≡ false
    both true e = e
    both false e = refl

module _ (v w : List ℕ) (i : ℕ) (h : i < length v) (k : i < length w) where
  pub same-on : get_or v i 0 ≡ get_or w i 0 → same (drop i v) (drop i w) ≡ same (drop (i + 1) v) (drop (i + 1) w)
  unfolding same
  same-on e = rw (drop-cons v i 0 h, drop-cons w i 0 k, eq-eqb (get_or v i 0) (get_or w i 0) e, add-one i)

  pub same_not : (get_or v i 0 ≡ get_or w i 0 → ⊥) → same (drop i v) (drop i w) ≡ false
  unfolding same
  same_not e = rw (drop-cons v i 0 h, drop-cons w i 0 k, ne_eqb (get_or v i 0) (get_or w i 0) e)

pub same-past : (v w : List ℕ) (i : ℕ) → length v ≤ i → length w ≤ i → same (drop i v) (drop i w) ≡ true
unfolding same
same-past v w i h k = rw (drop_of_length-le v h, drop_of_length-le w k)

pub same-equal : (v w : List ℕ) → same v w ≡ true → v ≡ w
unfolding same
same-equal [] [] e = refl
same-equal [] (y ∷ w) e = absurd (false≢true e)
same-equal (x ∷ v) [] e = absurd (false≢true e)
same-equal (x ∷ v) (y ∷ w) e =
    let head : x ≡ y = eqb-true x y (and_left (eqb x y) (same v w) e) in
    rw (head, same-equal v w (and_right (eqb x y) (same v w) e))

pub same-itself : (v : List ℕ) → same v v ≡ true
unfolding same
same-itself [] = refl
same-itself (x ∷ v) = rw (eq-eqb x x refl, same-itself v)

-- as `==` on slices tells it
pub same_told : (v w : List ℕ) (r : Bool) → Decides r (v ≡ w) → r ≡ same v w
same_told v w true h = sym (rw (← h.0 refl) (same-itself v))
same_told v w false h = by-test (same v w) refl
  where
    by-test : (t : Bool) → same v w ≡ t → false ≡ same v w
    by-test true e = h.1 (same-equal v w e) ∙ sym e
    by-test false e = sym e

-- ## How far two lists go alike

module _ {A : Type 0} (p : A → A → Bool) where
  pub alike-none : (m : List A) → alike p [] m ≡ 0
  unfolding alike
  alike-none m = refl

  pub alike-ended : (l : List A) → alike p l [] ≡ 0
  unfolding alike
  alike-ended [] = refl
  alike-ended (x ∷ l) = refl

  module _ (x y : A) (l m : List A) where
    pub alike-more : p x y ≡ true → alike p (x ∷ l) (y ∷ m) ≡ suc (alike p l m)
    unfolding alike
    alike-more e = rw e

    pub alike-stop : p x y ≡ false → alike p (x ∷ l) (y ∷ m) ≡ 0
    unfolding alike
    alike-stop e = rw e

  pub alike-within : (l m : List A) → (alike p l m ≤ length l) × (alike p l m ≤ length m)
  unfolding alike
  alike-within [] m = (omega arith, omega arith)
  alike-within (x ∷ l) [] = (omega arith, omega arith)
  alike-within (x ∷ l) (y ∷ m) = by-test (p x y) (alike-within l m)
    where
      by-test : (t : Bool) → (alike p l m ≤ length l) × (alike p l m ≤ length m)
          → ((if t then suc (alike p l m) else 0) ≤ suc (length l))
          × ((if t then suc (alike p l m) else 0) ≤ suc (length m))
      by-test true h = let a = h.0 in let b = h.1 in (omega arith, omega arith)
      by-test false h = (omega arith, omega arith)

  -- where the test tells that two are the same, so are the fronts
  pub alike-front : ((x y : A) → p x y ≡ true → x ≡ y) → (l m : List A) → take (alike p l m) l ≡ take (alike p l m) m
  unfolding alike
  alike-front told [] m = refl
  alike-front told (x ∷ l) [] = refl
  alike-front told (x ∷ l) (y ∷ m) = by-test (p x y) refl (alike-front told l m)
    where
      by-test : (t : Bool) → p x y ≡ t → take (alike p l m) l ≡ take (alike p l m) m
          → take (if t then suc (alike p l m) else 0) (x ∷ l) ≡ take (if t then suc (alike p l m) else 0) (y ∷ m)
      by-test true e i = rw (told x y e, i)
      by-test false e i = refl

  -- where the test passes of each and itself, the next two differ
  pub alike-parts : ((x : A) → p x x ≡ true) → (l m : List A) (x y : A) (l' m' : List A)
      → drop (alike p l m) l ≡ x ∷ l' → drop (alike p l m) m ≡ y ∷ m' → x ≡ y → ⊥
  unfolding alike
  alike-parts passes [] m x y l' m' d e same-two = let z : ◌≡◌ {A = ℕ} 0 1 = cc in omega arith
  alike-parts passes (a ∷ l) [] x y l' m' d e same-two = let z : ◌≡◌ {A = ℕ} 0 1 = cc in omega arith
  alike-parts passes (a ∷ l) (b ∷ m) x y l' m' d e same-two =
      by-test (p a b) refl (λ d e. alike-parts passes l m x y l' m' d e same-two) d e
    where
      by-test : (t : Bool) → p a b ≡ t → (drop (alike p l m) l ≡ x ∷ l' → drop (alike p l m) m ≡ y ∷ m' → ⊥)
          → drop (if t then suc (alike p l m) else 0) (a ∷ l) ≡ x ∷ l'
          → drop (if t then suc (alike p l m) else 0) (b ∷ m) ≡ y ∷ m' → ⊥
      by-test true s later d e = later d e
      by-test false s later d e =
          let heads : a ≡ b = cc in
          let yes : p a b ≡ true = ap (λ (z : A). p a z) (sym heads) ∙ passes a in
          false≢true (sym s ∙ yes)
