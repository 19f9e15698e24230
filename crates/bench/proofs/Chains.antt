-- What std's iterators make, in the words of `basic_laws` and of the definitions.
--     all-listed                 whether all pass
--     folded                     a list worked into a value
--     first-found, first-missed  where the first that passes stands, and where none does
--     taken_places               the places of a table that are taken
--     front_rejoined             a table whose taken places were gone over and changed, the others behind them
use Prim.Native.Nat.{ℕ, suc, ◌+◌, ◌≤◌, min}
use Rattle.std.specs.Prelude.{◌≡◌, Bool, true, false, not, ◌&&◌, List, [], ◌∷◌, ◌++◌, length, take, drop, ltb, cond}
use Rattle.std.specs.Prelude.{Some, None, position}
use Rattle.std.specs.Prelude.{if◌then◌else◌}
use Rattle.std.specs.List.{list_all, position_or_len, fold as fold_items}
use Rattle.std.proofs.Common.{refl, ap, sym, ◌∙◌, arith, take-append-drop, add-zero, zero-add}
use Rattle.std.proofs.lemmas.Bool.Decides.{nat_tests}
use Rattle.basic_laws.specs.First.{first_with}
use Rattle.basic_laws.specs.Fold.{fold, all}
use Rattle.basic_laws.specs.Front.{map_front}
use Rattle.basic_laws.specs.FrontLaws.{front-past, front-taken, front-dropped}
use Rattle.bench.specs.Taken.{taken-most, front-most}

pub all-listed : {A : Type 0} (p : A → Bool) (l : List A) → list_all p l ≡ all p l
unfolding all
all-listed p [] = refl
all-listed p (x ∷ l) = ap (λ (b : Bool). p x && b) (all-listed p l)

pub folded : {A B : Type 0} (op : B → A → B) (b : B) (l : List A) → fold_items op b l ≡ fold op b l
unfolding fold
folded op b [] = refl
folded op b (x ∷ l) = folded op (op b x) l

module _ {A R : Type 0} (p : A → Bool) (f : ℕ → R) (z : R) where
  first-at : (k : ℕ) (l : List A)
      → first_with p f z k l ≡ cond (ltb (position_or_len p l) (length l)) (f (k + position_or_len p l)) z
  unfolding first_with
  first-at k [] = refl
  first-at k (x ∷ l) = by-test (p x) (position_or_len p l) (length l) (first-at (suc k) l)
    where
      by-test : (t : Bool) (i n : ℕ) → first_with p f z (suc k) l ≡ cond (ltb i n) (f (suc k + i)) z
          → (if t then f k else first_with p f z (suc k) l)
          ≡ cond (ltb (cond (not t) (1 + i) 0) (suc n)) (f (k + cond (not t) (1 + i) 0)) z
      by-test true i n later = let here : ltb 0 (suc n) ≡ true = grind (arith, nat_tests) in rw (here, add-zero k)
      by-test false i n later =
          let same : ltb (1 + i) (suc n) ≡ ltb i n = grind (arith, nat_tests) in
          let next : k + (1 + i) ≡ suc k + i = omega arith in
          later ∙ rw (same, next)

  pub first-found : (l : List A) (i : ℕ) → Some i ≡ position p l → f i ≡ first_with p f z 0 l
  first-found l i e = by-test (ltb (position_or_len p l) (length l)) (position_or_len p l) e (first-at 0 l)
    where
      by-test : (t : Bool) (j : ℕ) → Some i ≡ cond t (Some j) None → first_with p f z 0 l ≡ cond t (f (0 + j)) z
          → f i ≡ first_with p f z 0 l
      by-test true j e is = let same : i ≡ j = cc in rw (same, is, zero-add j)
      by-test false j e is = cc

  pub first-missed : (l : List A) → None ≡ position p l → z ≡ first_with p f z 0 l
  first-missed l e = by-test (ltb (position_or_len p l) (length l)) (position_or_len p l) e (first-at 0 l)
    where
      by-test : (t : Bool) (j : ℕ) → None ≡ cond t (Some j) None → first_with p f z 0 l ≡ cond t (f (0 + j)) z
          → z ≡ first_with p f z 0 l
      by-test true j e is = cc
      by-test false j e is = sym is

-- p of the m places of l are taken
pub taken_places : {A : Type 0} (n m p : ℕ) (l : List A) → length l ≡ m → p ≡ min n m → take p l ≡ take n l
taken_places n m p l long few = rw few (taken-most n m l long)

module _ {A : Type 0} (f : A → A) where
  rejoined : (n k : ℕ) (l : List A) → length (take n l) ≤ k → map_front f k (take n l) ++ drop n l ≡ map_front f n l
  rejoined n k l h =
      ap (λ (m : List A). m ++ drop n l) (front-past f k (take n l) h ∙ sym (front-taken f n l))
      ∙ ap (λ (m : List A). take n (map_front f n l) ++ m) (sym (front-dropped f n l))
      ∙ take-append-drop n (map_front f n l)

  -- k of them have been gone over
  pub front_rejoined : (n m p k : ℕ) (l front : List A) → length l ≡ m → p ≡ min n m → front ≡ map_front f k (take p l)
      → length (take p l) ≤ k → front ++ drop p l ≡ map_front f n l
  front_rejoined n m p k l front long few is h =
      ap (λ (t : List A). t ++ drop p l) is ∙ rejoined p k l h ∙ rw few (front-most n m l long f)
