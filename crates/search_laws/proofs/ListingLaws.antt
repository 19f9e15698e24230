-- The listing is in order, and for codes of n bits, no two the same, it is a permutation of them, so that it is as
-- long.
use Rattle.std.specs.Prelude.{◌≡◌, refl, ◌≢◌, Bool, true, false, ℕ, zero, suc, length}
use Rattle.std.proofs.Common.{ap, arith}
use mathlib.Core.List.Permᴰ
use mathlib.Core.List.{List, [], ◌∷◌, ◌++◌, map, Permᴰ}
use Rattle.search_laws.specs.Codes.{Code, follow, nobody, Sized, Before}
use Rattle.basic_laws.specs.Each.{Each, Pairs, Distinct}
use Rattle.basic_laws.specs.EachLaws.{perm-length}
use Rattle.search_laws.specs.Listing.{in_order}

-- Nothing is listed of nobody.
pub order-nobody : (n : ℕ) (S : List Code) → nobody S ≡ true → in_order n S ≡ []
unfolding in_order follow
order-nobody zero [] h = refl
order-nobody (suc n) [] h = let i = order-nobody n [] refl in rw i
order-nobody zero (c ∷ S) h = cc
order-nobody (suc n) (c ∷ S) h = cc

-- ## In order

before-cons : (b : Bool) {c d : Code} → Before c d → Before (b ∷ c) (b ∷ d)
before-cons b h = record {
  common = b ∷ h.common;
  left = h.left;
  right = h.right;
  is-left = ap (◌∷◌ b) h.is-left;
  is_right = ap (◌∷◌ b) h.is_right;
}

zero_one : (c d : Code) → Before (false ∷ c) (true ∷ d)
zero_one c d = record { common = []; left = c; right = d; is-left = refl; is_right = refl }

each-cons : (b : Bool) (c : Code) (S : List Code) → Each (Before c) S → Each (Before (b ∷ c)) (map (◌∷◌ b) S)
each-cons b c [] h = tt
each-cons b c (d ∷ S) h = (before-cons b h.0, each-cons b c S h.1)

pairs-cons : (b : Bool) (S : List Code) → Pairs Before S → Pairs Before (map (◌∷◌ b) S)
pairs-cons b [] h = tt
pairs-cons b (c ∷ S) h = (each-cons b c S h.0, pairs-cons b S h.1)

each_halves : (c : Code) (S T : List Code) → Each (Before c) S
    → Each (Before (false ∷ c)) (map (◌∷◌ false) S ++ map (◌∷◌ true) T)
each_halves c [] [] h = tt
each_halves c [] (d ∷ T) h = (zero_one c d, each_halves c [] T h)
each_halves c (d ∷ S) T h = (before-cons false h.0, each_halves c S T h.1)

pairs-halves : (S T : List Code) → Pairs Before S → Pairs Before T
    → Pairs Before (map (◌∷◌ false) S ++ map (◌∷◌ true) T)
pairs-halves [] T h k = pairs-cons true T k
pairs-halves (c ∷ S) T h k = (each_halves c S T h.0, pairs-halves S T h.1 k)

pub order-pairs : (n : ℕ) (S : List Code) → Pairs Before (in_order n S)
unfolding in_order
order-pairs zero [] = tt
order-pairs zero (c ∷ S) = (tt, tt)
order-pairs (suc n) S =
    pairs-halves (in_order n (follow false S)) (in_order n (follow true S)) (order-pairs n (follow false S))
    (order-pairs n (follow true S))

-- ## Each code once

halves : (n : ℕ) (S : List Code) → Sized (suc n) S
    → Permᴰ S (map (◌∷◌ false) (follow false S) ++ map (◌∷◌ true) (follow true S))
unfolding follow
halves n [] h = Permᴰ.nil
halves n ([] ∷ S) h = absurd (omega arith)
halves n ((false ∷ c) ∷ S) h = Permᴰ.cons refl (halves n S h.1)
halves n ((true ∷ c) ∷ S) h =
    Permᴰ.trans (Permᴰ.cons refl (halves n S h.1))
    (Permᴰ.symm (Permᴰ.middle (true ∷ c) (map (◌∷◌ false) (follow false S)) (map (◌∷◌ true) (follow true S))))

follow-sized : (n : ℕ) (d : Bool) (S : List Code) → Sized (suc n) S → Sized n (follow d S)
unfolding follow
follow-sized n d [] h = tt
follow-sized n d ([] ∷ S) h = absurd (omega arith)
follow-sized n true ((true ∷ c) ∷ S) h = (omega arith, follow-sized n true S h.1)
follow-sized n true ((false ∷ c) ∷ S) h = follow-sized n true S h.1
follow-sized n false ((true ∷ c) ∷ S) h = follow-sized n false S h.1
follow-sized n false ((false ∷ c) ∷ S) h = (omega arith, follow-sized n false S h.1)

follow-absent : (n : ℕ) (b : Bool) (c : Code) (S : List Code) → Sized (suc n) S → Each (λ d. (b ∷ c) ≢ d) S
    → Each (λ d. c ≢ d) (follow b S)
unfolding follow
follow-absent n b c [] s h = tt
follow-absent n b c ([] ∷ S) s h = absurd (omega arith)
follow-absent n true c ((true ∷ d) ∷ S) s h = (λ e. h.0 (ap (◌∷◌ true) e), follow-absent n true c S s.1 h.1)
follow-absent n true c ((false ∷ d) ∷ S) s h = follow-absent n true c S s.1 h.1
follow-absent n false c ((true ∷ d) ∷ S) s h = follow-absent n false c S s.1 h.1
follow-absent n false c ((false ∷ d) ∷ S) s h = (λ e. h.0 (ap (◌∷◌ false) e), follow-absent n false c S s.1 h.1)

follow-distinct : (n : ℕ) (b : Bool) (S : List Code) → Sized (suc n) S → Distinct S → Distinct (follow b S)
unfolding follow
follow-distinct n b [] s h = tt
follow-distinct n b ([] ∷ S) s h = absurd (omega arith)
follow-distinct n true ((true ∷ c) ∷ S) s h =
    (follow-absent n true c S s.1 h.0, follow-distinct n true S s.1 h.1)
follow-distinct n true ((false ∷ c) ∷ S) s h = follow-distinct n true S s.1 h.1
follow-distinct n false ((true ∷ c) ∷ S) s h = follow-distinct n false S s.1 h.1
follow-distinct n false ((false ∷ c) ∷ S) s h =
    (follow-absent n false c S s.1 h.0, follow-distinct n false S s.1 h.1)

pub order-all : (n : ℕ) (S : List Code) → Sized n S → Distinct S → Permᴰ S (in_order n S)
unfolding in_order
order-all zero [] h k = Permᴰ.nil
order-all zero ([] ∷ []) h k = Permᴰ.cons refl Permᴰ.nil
order-all zero ([] ∷ [] ∷ S) h k = absurd (k.0.0 refl)
order-all zero ([] ∷ (b ∷ c) ∷ S) h k = absurd (omega arith)
order-all zero ((b ∷ c) ∷ S) h k = absurd (omega arith)
order-all (suc n) S h k =
    let zeros = order-all n (follow false S) (follow-sized n false S h) (follow-distinct n false S h k) in
    let ones = order-all n (follow true S) (follow-sized n true S h) (follow-distinct n true S h k) in
    Permᴰ.trans (halves n S h)
    (Permᴰ.trans
    (Permᴰ.append_right _ (Permᴰ.map (◌∷◌ false) zeros))
    (Permᴰ.append_left (map (◌∷◌ false) (in_order n (follow false S))) (Permᴰ.map (◌∷◌ true) ones)))

pub order-length : (n : ℕ) (S : List Code) → Sized n S → Distinct S → length S ≡ length (in_order n S)
order-length n S h k = perm-length (order-all n S h k)
