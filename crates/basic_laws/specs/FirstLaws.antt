-- The first element that passes a test, and whether all pass, as a loop with an early return finds it: what is left to
-- look at from place i on.
--     onward i n l                                           what is left to look at from place i, of the first n
--     first-hit, first-miss, first-skip, first-end           one turn of a loop that looks for the first
--     at-within, at_none, at_there, at_here, at_on, at-end   how many stand before the first that is v, what they are,
--                                                            and one turn of a loop that looks for it
--     all-onward, all-stopped, all-skip, all-passed          one turn of a loop that returns at the first that fails
--     first-cases, first-none, first-append, first-mapped    where the first stands, or none; of two lists; of what a
--                                                            function makes of each
use Rattle.std.specs.Prelude.{ℕ, suc, ◌+◌, ◌<◌, ◌≤◌, ◌≡◌, refl, Bool, true, false, not, List, [], ◌∷◌, ◌++◌, map, eqb, length, take, drop, get_or}
use Rattle.std.proofs.Common.{sym, ap, subst, ◌∙◌, arith, length-take, drop_of_length-le, drop-cons, get_or-take}
use Rattle.std.proofs.Math.Numerals.{add-one}
use borrow.Author.Tests.{eq-eqb, ne_eqb, eqb-true}
use Rattle.std.specs.Prelude.{if◌then◌else◌}
use Rattle.basic_laws.specs.Each.{Each}
use Rattle.basic_laws.specs.Fold.{all}
use Rattle.basic_laws.specs.FoldLaws.{all-passes, all-fails, all_end}
use Rattle.basic_laws.specs.First.{first_with, first_at}

abbrev pub onward : {A : Type 0} → ℕ → ℕ → List A → List A
onward i n l = drop i (take n l)

module _ {A R : Type 0} (p : A → Bool) (f : ℕ → R) (z : R) (i n : ℕ) (l : List A) where
  looked : (d : A) → i < n → i < length l → onward i n l ≡ get_or l i d ∷ drop (suc i) (take n l)
  looked d h k =
      let b : i < length (take n l) = simp length-take (omega arith) in
      drop-cons (take n l) i d b ∙ ap (λ (x : A). x ∷ drop (suc i) (take n l)) (get_or-take n l i d h)

  pub first-hit : (d : A) → i < n → i < length l → p (get_or l i d) ≡ true → first_with p f z i (onward i n l) ≡ f i
  unfolding first_with
  first-hit d h k t = rw (looked d h k, t)

  pub first-miss : (d : A) → i < n → i < length l → p (get_or l i d) ≡ false
      → first_with p f z i (onward i n l) ≡ first_with p f z (i + 1) (onward (i + 1) n l)
  unfolding first_with
  first-miss d h k t = rw (looked d h k, t, add-one i)

  pub first-end : length (take n l) ≤ i → first_with p f z i (onward i n l) ≡ z
  unfolding first_with
  first-end h = rw (drop_of_length-le (take n l) h)

pub first-skip : {A R : Type 0} (p : A → Bool) (f : ℕ → R) (z : R) (i n : ℕ) (l : List A) → n ≤ i
    → first_with p f z i (onward i n l) ≡ first_with p f z (i + 1) (onward (i + 1) n l)
first-skip p f z i n l h =
    let a : length (take n l) ≤ i = simp length-take (omega arith) in
    let b : length (take n l) ≤ i + 1 = omega arith in
    first-end p f z i n l a ∙ sym (first-end p f z (i + 1) n l b)

-- ## Whether all of the first n pass, as a loop that returns at the first that fails tells it

module _ {A : Type 0} (p : A → Bool) (i n : ℕ) (l : List A) where
  pub all-onward : (d : A) → i < n → i < length l → p (get_or l i d) ≡ true
      → all p (onward i n l) ≡ all p (onward (i + 1) n l)
  all-onward d h k t =
      let b : i < length (take n l) = simp length-take (omega arith) in
      all-passes p (take n l) i d b (ap p (get_or-take n l i d h) ∙ t)

  pub all-stopped : (d : A) → i < n → i < length l → p (get_or l i d) ≡ false → all p (onward i n l) ≡ false
  all-stopped d h k t =
      let b : i < length (take n l) = simp length-take (omega arith) in
      all-fails p (take n l) i d b (ap p (get_or-take n l i d h) ∙ t)

  pub all-skip : n ≤ i → all p (onward i n l) ≡ all p (onward (i + 1) n l)
  all-skip h =
      let a : length (take n l) ≤ i = simp length-take (omega arith) in
      let b : length (take n l) ≤ i + 1 = omega arith in
      all_end p (take n l) i a ∙ sym (all_end p (take n l) (i + 1) b)

  pub all-passed : length l ≤ i → all p (onward i n l) ≡ true
  all-passed h = let a : length (take n l) ≤ i = simp length-take (omega arith) in all_end p (take n l) i a

-- ## Before the first that is v

pub at-within : (v : ℕ) (l : List ℕ) → first_at v l ≤ length l
unfolding first_at
at-within v [] = omega arith
at-within v (c ∷ l) = by-test (eqb c v) (at-within v l)
  where
    by-test : (t : Bool) → first_at v l ≤ length l → (if t then 0 else suc (first_at v l)) ≤ suc (length l)
    by-test true h = omega arith
    by-test false h = omega arith

-- none of those before it is v, and it is
pub at_none : (v : ℕ) (l : List ℕ) → all (λ c. not (eqb c v)) (take (first_at v l) l) ≡ true
unfolding first_at all
at_none v [] = refl
at_none v (c ∷ l) = by-test (eqb c v) refl (at_none v l)
  where
    by-test : (t : Bool) → eqb c v ≡ t → all (λ c. not (eqb c v)) (take (first_at v l) l) ≡ true
        → all (λ c. not (eqb c v)) (take (if t then 0 else suc (first_at v l)) (c ∷ l)) ≡ true
    by-test true e rest = refl
    by-test false e rest = rw e rest

pub at_there : (v : ℕ) (l : List ℕ) → first_at v l < length l → get_or l (first_at v l) 0 ≡ v
unfolding first_at
at_there v [] h = absurd (omega arith)
at_there v (c ∷ l) h = by-test (eqb c v) refl (at_there v l) h
  where
    by-test : (t : Bool) → eqb c v ≡ t → (first_at v l < length l → get_or l (first_at v l) 0 ≡ v)
        → (if t then 0 else suc (first_at v l)) < suc (length l)
        → get_or (c ∷ l) (if t then 0 else suc (first_at v l)) 0 ≡ v
    by-test true e rest k = eqb-true c v e
    by-test false e rest k = rest (omega arith)

-- as a loop finds it from place i on
module _ (v : ℕ) (l : List ℕ) (i : ℕ) where
  pub at_here : i < length l → get_or l i 0 ≡ v → i + first_at v (drop i l) ≡ i
  unfolding first_at
  at_here h e = rw (drop-cons l i 0 h, eq-eqb (get_or l i 0) v e) (omega arith)

  pub at_on : i < length l → (get_or l i 0 ≡ v → ⊥) → i + first_at v (drop i l) ≡ i + 1 + first_at v (drop (i + 1) l)
  unfolding first_at
  at_on h e = rw (drop-cons l i 0 h, ne_eqb (get_or l i 0) v e, add-one i) (omega arith)

  pub at-end : length l ≤ i → i + first_at v (drop i l) ≡ i
  unfolding first_at
  at-end h = rw (drop_of_length-le l h) (omega arith)

-- ## Where the first stands

-- What holds of the place of one that passes, and where none passes, holds of the answer.
pub first-cases : {A R : Type 0} (p : A → Bool) (f : ℕ → R) (z : R) (k : ℕ) (l : List A) (P : R → Type 0)
    → ((i : ℕ) → i < length l → ((d : A) → p (get_or l i d) ≡ true) → P (f (k + i))) → (Each (λ x. p x ≡ false) l → P z)
    → P (first_with p f z k l)
unfolding first_with
first-cases p f z k [] P hit miss = miss tt
first-cases p f z k (x ∷ l) P hit miss =
    by-test (p x) refl (λ e. first-cases p f z (suc k) l P
    (λ i h t. subst (λ (n : ℕ). P (f n)) (omega arith) (hit (suc i) (omega arith) t))
    (λ rest. miss (e, rest)))
  where
    by-test : (t : Bool) → p x ≡ t → (p x ≡ false → P (first_with p f z (suc k) l))
        → P (if t then f k else first_with p f z (suc k) l)
    by-test true e later = subst (λ (n : ℕ). P (f n)) (omega arith) (hit 0 (omega arith) (λ d. e))
    by-test false e later = later e

pub first-none : {A R : Type 0} (p : A → Bool) (f : ℕ → R) (z : R) (k : ℕ) (l : List A) → Each (λ x. p x ≡ false) l
    → first_with p f z k l ≡ z
unfolding first_with
first-none p f z k [] e = refl
first-none p f z k (x ∷ l) e = rw e.0 (first-none p f z (suc k) l e.1)

-- of two lists, behind the first of which the second is looked at
pub first-append : {A R : Type 0} (p : A → Bool) (f : ℕ → R) (z : R) (k : ℕ) (l m : List A)
    → first_with p f z k (l ++ m) ≡ first_with p f (first_with p f z (k + length l) m) k l
unfolding first_with
first-append p f z k [] m = ap (λ (n : ℕ). first_with p f z n m) (omega arith)
first-append p f z k (x ∷ l) m =
    ap (λ r. if p x then f k else r) (first-append p f z (suc k) l m
    ∙ ap (λ (n : ℕ). first_with p f (first_with p f z n m) (suc k) l) (omega arith))

-- of what a function makes of each
pub first-mapped : {A B R : Type 0} (g : A → B) (q : B → Bool) (f : ℕ → R) (z : R) (k : ℕ) (l : List A)
    → first_with (λ x. q (g x)) f z k l ≡ first_with q f z k (map g l)
unfolding first_with
first-mapped g q f z k [] = refl
first-mapped g q f z k (x ∷ l) = ap (λ r. if q (g x) then f k else r) (first-mapped g q f z (suc k) l)
