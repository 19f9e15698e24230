-- The changed front of a list, as a loop of stores makes it. The laws named `upto-` serve a loop that runs over the
-- whole array and tests `i < n` inside, so that n may be any number.
use Prim.Native.Nat.{ℕ, zero, suc, ◌+◌, ◌<◌, ◌≤◌, min}
use Rattle.std.specs.Prelude.{◌≡◌, Bool, true, false, leb, length, set, take, drop, get_or}
use Rattle.std.proofs.Math.Path.{refl, ap}
use Rattle.std.proofs.Common.{sym, ◌∙◌, arith, add-one, leb-true, leb-false}
use mathlib.Core.List.{List, [], ◌∷◌, map}
use Rattle.basic_laws.specs.Front.{map_front}

module _ {A : Type 0} (f : A → A) where
  pub front-none : (l : List A) → l ≡ map_front f 0 l
  unfolding map_front
  front-none l = refl

  pub front_length : (n : ℕ) (l : List A) → length (map_front f n l) ≡ length l
  unfolding map_front
  front_length zero l = refl
  front_length (suc n) [] = refl
  front_length (suc n) (x ∷ l) = ap suc (front_length n l)

  -- the place after the changed ones is as it was
  front-next : (n : ℕ) (l : List A) (d : A) → get_or (map_front f n l) n d ≡ get_or l n d
  unfolding map_front
  front-next zero l d = refl
  front-next (suc n) [] d = refl
  front-next (suc n) (x ∷ l) d = front-next n l d

  front-grown : (n : ℕ) (l : List A) (d : A) → set (map_front f n l) n (f (get_or l n d)) ≡ map_front f (suc n) l
  unfolding map_front
  front-grown zero [] d = refl
  front-grown zero (x ∷ l) d = refl
  front-grown (suc n) [] d = refl
  front-grown (suc n) (x ∷ l) d = ap (λ (t : List A). f x ∷ t) (front-grown n l d)

  -- one turn: the next element is read, changed and stored; past the end nothing changes
  pub front-more : (n : ℕ) (l : List A) (d : A)
      → set (map_front f n l) n (f (get_or (map_front f n l) n d)) ≡ map_front f (n + 1) l
  front-more n l d = rw (front-next n l d, add-one n) (front-grown n l d)

  -- all of a list
  pub front-past : (n : ℕ) (l : List A) → length l ≤ n → map_front f n l ≡ map f l
  unfolding map_front
  front-past zero [] h = refl
  front-past zero (x ∷ l) h = absurd (omega arith)
  front-past (suc n) [] h = refl
  front-past (suc n) (x ∷ l) h = ap (λ (t : List A). f x ∷ t) (front-past n l (omega arith))

  -- the changed front by itself
  pub front-taken : (n : ℕ) (l : List A) → take n (map_front f n l) ≡ map f (take n l)
  unfolding map_front
  front-taken zero l = refl
  front-taken (suc n) [] = refl
  front-taken (suc n) (x ∷ l) = ap (λ (t : List A). f x ∷ t) (front-taken n l)

  pub front-dropped : (n : ℕ) (l : List A) → drop n (map_front f n l) ≡ drop n l
  unfolding map_front
  front-dropped zero l = refl
  front-dropped (suc n) [] = refl
  front-dropped (suc n) (x ∷ l) = front-dropped n l

  pub upto-none : (n : ℕ) (l : List A) → l ≡ map_front f (min 0 n) l
  upto-none n l = let e : min 0 n ≡ 0 = omega arith in rw e (front-none l)

  pub upto-more : (i n : ℕ) (l : List A) (d : A) → i < n
      → set (map_front f (min i n) l) i (f (get_or (map_front f (min i n) l) i d)) ≡ map_front f (min (i + 1) n) l
  upto-more i n l d h =
      let e : min i n ≡ i = omega arith in let e' : min (i + 1) n ≡ i + 1 = omega arith in
      rw (e, e') (front-more i l d)

  pub upto_skip : (i n : ℕ) (l : List A) → n ≤ i → map_front f (min i n) l ≡ map_front f (min (i + 1) n) l
  upto_skip i n l h = let e : min i n ≡ min (i + 1) n = omega arith in rw e

  pub upto-end : (i n : ℕ) (l : List A) → length l ≤ i → map_front f (min i n) l ≡ map_front f n l
  upto-end i n l h = by-test (leb n i) refl
    where
      by-test : (t : Bool) → leb n i ≡ t → map_front f (min i n) l ≡ map_front f n l
      by-test true e = let k : n ≤ i = leb-true n i e in let m : min i n ≡ n = omega arith in rw m
      by-test false e =
          let k : i < n = leb-false n i e in
          front-past (min i n) l (omega arith) ∙ sym (front-past n l (omega arith))
