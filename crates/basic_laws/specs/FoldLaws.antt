-- A fold as a loop with an accumulator makes it, and `all` as a loop that returns at the first element that fails.
--     fold_step                       one turn of a loop to the list's own length
--     fold-upto-..                    a loop over a whole array that tests `i < n` inside, so that n may be any number
--     all-passes, all-fails, all_end  one turn of a loop that returns early
--     all_append, all_take, all_drop, all-at, all_from, all_past      `all` of parts of a list
use Prim.Native.Nat.{ℕ, ◌+◌, ◌<◌, ◌≤◌, min, zero, suc}
use Rattle.std.specs.Prelude.{◌≡◌, Bool, true, false, ◌&&◌, leb, length, take, drop, get_or}
use Rattle.std.proofs.Math.Path.{refl}
use Rattle.std.proofs.Common.{sym, ap, ◌∙◌, leb-true, leb-false, drop_of_length-le, take-append-drop, take_all, drop-cons}
use Rattle.std.proofs.Math.Bool.{and-true, and_assoc}
use mathlib.Core.List.{List, [], ◌∷◌, ◌++◌}
use native.Mathlib.Omega.{arith}
use Rattle.std.proofs.Math.Numerals.{add-one}
use Rattle.std.proofs.Math.Seq.{take-suc}
use Rattle.basic_laws.specs.Fold.{fold, all}
use Rattle.basic_laws.specs.ChoiceLaws.{and_left, and_right}

module _ {A B : Type 0} (op : B → A → B) where
  pub fold-append : (b : B) (l m : List A) → fold op b (l ++ m) ≡ fold op (fold op b l) m
  unfolding fold
  fold-append b [] m = refl
  fold-append b (x ∷ l) m = fold-append (op b x) l m

  pub fold_step : (b : B) (i : ℕ) (l : List A) (d : A) → i < length l
      → op (fold op b (take i l)) (get_or l i d) ≡ fold op b (take (i + 1) l)
  unfolding fold
  fold_step b i l d h = rw (add-one i, take-suc l i d, fold-append) refl

  pub fold-upto-none : (b : B) (n : ℕ) (l : List A) → b ≡ fold op b (take (min 0 n) l)
  unfolding fold
  fold-upto-none b n l = let e : min 0 n ≡ 0 = omega arith in rw e refl

  pub fold-upto-more : (b : B) (i n : ℕ) (l : List A) (d : A) → i < n → i < length l
      → op (fold op b (take (min i n) l)) (get_or l i d) ≡ fold op b (take (min (i + 1) n) l)
  fold-upto-more b i n l d h k =
      let e : min i n ≡ i = omega arith in let e' : min (i + 1) n ≡ i + 1 = omega arith in
      rw (e, e') (fold_step b i l d k)

  pub fold-upto-skip : (b : B) (i n : ℕ) (l : List A) → n ≤ i
      → fold op b (take (min i n) l) ≡ fold op b (take (min (i + 1) n) l)
  fold-upto-skip b i n l h = let e : min i n ≡ min (i + 1) n = omega arith in rw e

  pub fold-upto-end : (b : B) (i n : ℕ) (l : List A) → length l ≤ i
      → fold op b (take (min i n) l) ≡ fold op b (take n l)
  fold-upto-end b i n l h = by-test (leb n i) refl
    where
      by-test : (t : Bool) → leb n i ≡ t → fold op b (take (min i n) l) ≡ fold op b (take n l)
      by-test true e = let k : n ≤ i = leb-true n i e in let m : min i n ≡ n = omega arith in rw m
      by-test false e =
          let k : i < n = leb-false n i e in
          let p : take (min i n) l ≡ l = take_all (min i n) l (omega arith) in
          let q : take n l ≡ l = take_all n l (omega arith) in
          ap (fold op b) (p ∙ sym q)

pub all-fold : {A : Type 0} (p : A → Bool) (m : Bool) (l : List A) → fold (λ a x. a && p x) m l ≡ (m && all p l)
unfolding fold all
all-fold p m [] = sym (and-true m)
all-fold p m (x ∷ l) = all-fold p (m && p x) l ∙ and_assoc m (p x) (all p l)

-- ## `all` as a loop with an early return tells it

module _ {A : Type 0} (p : A → Bool) (l : List A) (i : ℕ) where
  pub all-passes : (d : A) → i < length l → p (get_or l i d) ≡ true → all p (drop i l) ≡ all p (drop (i + 1) l)
  unfolding all
  all-passes d h t = rw (drop-cons l i d h, t, add-one i)

  pub all-fails : (d : A) → i < length l → p (get_or l i d) ≡ false → all p (drop i l) ≡ false
  unfolding all
  all-fails d h t = rw (drop-cons l i d h, t)

  pub all_end : length l ≤ i → all p (drop i l) ≡ true
  unfolding all
  all_end h = rw (drop_of_length-le l h)

-- ## All of a list

module _ {A : Type 0} (p : A → Bool) where
  pub all_append : (l m : List A) → all p (l ++ m) ≡ (all p l && all p m)
  unfolding all
  all_append [] m = refl
  all_append (x ∷ l) m = let e = all_append l m in rw e (sym (and_assoc (p x) (all p l) (all p m)))

  pub all_take : (n : ℕ) (l : List A) → all p l ≡ true → all p (take n l) ≡ true
  all_take n l h =
      and_left (all p (take n l)) (all p (drop n l))
      (sym (all_append (take n l) (drop n l)) ∙ ap (all p) (take-append-drop n l) ∙ h)

  pub all_drop : (n : ℕ) (l : List A) → all p l ≡ true → all p (drop n l) ≡ true
  all_drop n l h =
      and_right (all p (take n l)) (all p (drop n l))
      (sym (all_append (take n l) (drop n l)) ∙ ap (all p) (take-append-drop n l) ∙ h)

  pub all-at : (l : List A) (d : A) (i : ℕ) → i < length l → all p l ≡ true → p (get_or l i d) ≡ true
  unfolding all
  all-at [] d i h t = absurd (omega arith)
  all-at (x ∷ l) d zero h t = and_left (p x) (all p l) t
  all-at (x ∷ l) d (suc i) h t = all-at l d i (omega arith) (and_right (p x) (all p l) t)

  -- what is left to look at from place i
  pub all_from : (l : List A) (d : A) (i : ℕ) → i < length l
      → all p (drop i l) ≡ (p (get_or l i d) && all p (drop (i + 1) l))
  unfolding all
  all_from l d i h = rw (drop-cons l i d h, add-one i)

  pub all_past : (l : List A) (i : ℕ) → length l ≤ i → all p (drop i l) ≡ true
  unfolding all
  all_past l i h = rw (drop_of_length-le l h)
