-- A count past the places of a table counts all of them, so that a loop may end at the smaller of the two; and a device
-- that a slot leaves as it is need not be stored.
--     taken-most, front-most      the front of a table, and the front changed, by either number
--     front_kept                  a place whose element is as it is to be
use Prim.Native.Nat.{ℕ, zero, suc, ◌+◌, ◌<◌, ◌≤◌, min}
use Rattle.std.specs.Prelude.{◌≡◌, Bool, true, false, leb, length, take, get_or}
use Rattle.std.proofs.Math.Path.{refl, ap}
use Rattle.std.proofs.Common.{sym, ◌∙◌, arith, add-one, leb-true, leb-false, take_all}
use mathlib.Core.List.{List, [], ◌∷◌}
use Rattle.basic_laws.specs.Front.{map_front}
use Rattle.basic_laws.specs.FrontLaws.{front-past}

module _ {A : Type 0} (n m : ℕ) (l : List A) (long : length l ≡ m) where
  pub taken-most : take (min n m) l ≡ take n l
  taken-most = by-test (leb n m) refl
    where
      by-test : (t : Bool) → leb n m ≡ t → take (min n m) l ≡ take n l
      by-test true e = let k : n ≤ m = leb-true n m e in let same : min n m ≡ n = omega arith in rw same
      by-test false e =
          let k : m < n = leb-false n m e in
          take_all (min n m) l (omega arith) ∙ sym (take_all n l (omega arith))

  pub front-most : (f : A → A) → map_front f (min n m) l ≡ map_front f n l
  front-most f = by-test (leb n m) refl
    where
      by-test : (t : Bool) → leb n m ≡ t → map_front f (min n m) l ≡ map_front f n l
      by-test true e = let k : n ≤ m = leb-true n m e in let same : min n m ≡ n = omega arith in rw same
      by-test false e =
          let k : m < n = leb-false n m e in
          front-past f (min n m) l (omega arith) ∙ sym (front-past f n l (omega arith))

module _ {A : Type 0} (f : A → A) where
  kept_at : (n : ℕ) (l : List A) (d : A) → n < length l → f (get_or (map_front f n l) n d) ≡ get_or (map_front f n l) n d
      → map_front f n l ≡ map_front f (suc n) l
  unfolding map_front
  kept_at zero [] d h e = refl
  kept_at zero (x ∷ l) d h e = ap (λ (y : A). y ∷ l) (sym e)
  kept_at (suc n) [] d h e = refl
  kept_at (suc n) (x ∷ l) d h e = ap (λ (t : List A). f x ∷ t) (kept_at n l d (omega arith) e)

  pub front_kept : (n : ℕ) (l m : List A) (d : A) → m ≡ map_front f n l → n < length l → f (get_or m n d) ≡ get_or m n d
      → m ≡ map_front f (n + 1) l
  front_kept n l m d is h e = is ∙ kept_at n l d h (rw (← is) e) ∙ ap (λ (k : ℕ). map_front f k l) (sym (add-one n))
