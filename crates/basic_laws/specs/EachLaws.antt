-- What holds of each element of a list: kept by a weaker claim, by a permutation, which also keeps the length, by one
-- more at the end or a list behind it, by a function that keeps it, and by one element replaced; distinct elements stay
-- so with a new one at the end; two tests that agree pick the same; and those of two lists are those of the one and
-- then of the other.
use mathlib.Core.List.{List, [], ◌∷◌, ◌++◌, map, Permᴰ}
use Rattle.std.specs.Prelude.{if◌then◌else◌}
use Rattle.basic_laws.specs.Each.{Each, Distinct, those}
use Rattle.std.specs.Prelude.{Bool, true, false, ◌≡◌, refl, ◌≢◌, ℕ, zero, suc, ◌+◌, ◌<◌, length, get_or, set, take}
use Rattle.std.proofs.Common.{ap, ◌∙◌, arith, add-one}

pub each-implies : {A : Type 0} {P Q : A → Type 0} → ((x : A) → P x → Q x) → (l : List A) → Each P l → Each Q l
each-implies f [] h = tt
each-implies f (x ∷ l) h = (f x h.0, each-implies f l h.1)

-- A permutation keeps the length.
pub perm-length : {A : Type 0} {l m : List A} → Permᴰ l m → length l ≡ length m
perm-length Permᴰ.nil = refl
perm-length (Permᴰ.cons e p) = ap suc (perm-length p)
perm-length (Permᴰ.swap e f) = refl
perm-length (Permᴰ.trans p q) = perm-length p ∙ perm-length q

-- What holds of each holds of each of a permutation.
pub each-perm : {A : Type 0} (P : A → Type 0) {l m : List A} → Permᴰ l m → Each P l → Each P m
each-perm P Permᴰ.nil h = tt
each-perm P (Permᴰ.cons e p) h = (rw e at h.0, each-perm P p h.1)
each-perm P (Permᴰ.swap e f) h = (rw f at h.1.0, (rw e at h.0, h.1.1))
each-perm P (Permᴰ.trans p q) h = each-perm P q (each-perm P p h)

-- One more at the end.
pub each_append : {A : Type 0} (P : A → Type 0) (l m : List A) → Each P l → Each P m → Each P (l ++ m)
each_append P [] m e f = f
each_append P (x ∷ l) m e f = (e.0, each_append P l m e.1 f)

pub each_snoc : {A : Type 0} (P : A → Type 0) (l : List A) (v : A) → Each P l → P v → Each P (l ++ (v ∷ []))
each_snoc P [] v e p = (p, tt)
each_snoc P (x ∷ l) v e p = (e.0, each_snoc P l v e.1 p)

pub distinct_snoc : {A : Type 0} (l : List A) (v : A) → Distinct l → Each (λ x. x ≢ v) l → Distinct (l ++ (v ∷ []))
distinct_snoc [] v d e = (tt, tt)
distinct_snoc (x ∷ l) v d e = (each_snoc (λ y. x ≢ y) l v d.0 e.0, distinct_snoc l v d.1 e.1)

-- What a function keeps, one replaced, and one picked.
pub each-mapped : {A : Type 0} (P : A → Type 0) (f : A → A) → ((x : A) → P x → P (f x)) → (l : List A) → Each P l
    → Each P (map f l)
each-mapped P f h [] e = tt
each-mapped P f h (x ∷ l) e = (h x e.0, each-mapped P f h l e.1)

pub each_set : {A : Type 0} (P : A → Type 0) (l : List A) (i : ℕ) (v : A) → P v → Each P l → Each P (set l i v)
each_set P [] i v p e = tt
each_set P (x ∷ l) zero v p e = (p, e.1)
each_set P (x ∷ l) (suc i) v p e = (e.0, each_set P l i v p e.1)

pub each_at : {A : Type 0} (P : A → Type 0) (l : List A) (i : ℕ) (z : A) → i < length l → Each P l → P (get_or l i z)
each_at P [] i z h e = absurd (omega arith)
each_at P (x ∷ l) zero z h e = e.0
each_at P (x ∷ l) (suc i) z h e = each_at P l i z (omega arith) e.1

-- One element more.
each_next : {A : Type 0} (P : A → Type 0) (l : List A) (i : ℕ) (z : A) → (i < length l → P (get_or l i z))
    → Each P (take i l) → Each P (take (suc i) l)
each_next P [] i z h e = tt
each_next P (x ∷ l) zero z h e = (h (omega arith), tt)
each_next P (x ∷ l) (suc i) z h e = (e.0, each_next P l i z (λ k. h (omega arith)) e.1)

pub each_more : {A : Type 0} (P : A → Type 0) (l : List A) (i : ℕ) (z : A) → (i < length l → P (get_or l i z))
    → Each P (take i l) → Each P (take (i + 1) l)
each_more P l i z h e = rw (add-one i) (each_next P l i z h e)

-- A test that all pass picks all.
pub those-all : {A : Type 0} (p : A → Bool) → ((x : A) → p x ≡ true) → (l : List A) → those p l ≡ l
unfolding those
those-all p h [] = refl
those-all p h (x ∷ l) = let i = those-all p h l in rw (h x, i)

-- Two tests that agree on each element pick the same.
pub those-same : {A : Type 0} (p q : A → Bool) (l : List A) → Each (λ x. p x ≡ q x) l → those p l ≡ those q l
unfolding those
those-same p q [] e = refl
those-same p q (x ∷ l) e =
    ap (λ (u : Bool). if u then x ∷ those p l else those p l) e.0
    ∙ ap (λ m. if q x then x ∷ m else m) (those-same p q l e.1)

-- Those of two lists, one behind the other.
pub those-append : {A : Type 0} (p : A → Bool) (l m : List A) → those p (l ++ m) ≡ those p l ++ those p m
unfolding those
those-append p [] m = refl
those-append p (x ∷ l) m = by-test (p x) (those-append p l m)
  where
    by-test : (t : Bool) → those p (l ++ m) ≡ those p l ++ those p m
        → (if t then x ∷ those p (l ++ m) else those p (l ++ m)) ≡ (if t then x ∷ those p l else those p l) ++ those p m
    by-test true e = ap (λ k. x ∷ k) e
    by-test false e = e
