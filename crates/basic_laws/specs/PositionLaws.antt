-- `first_at` as an iterator's `position` tells it.
--     found-at    the place that `position` finds, or the end, is that of the first
use Rattle.std.specs.Prelude.{ℕ, suc, ◌+◌, ◌≤◌, ◌≡◌, refl, Bool, true, false, cond, Some, None, List, [], ◌∷◌, eqb, length, position, ◌==◌}
use Rattle.std.proofs.Common.{arith}
use Rattle.std.proofs.Math.Dec.{ltb}
use borrow.Author.Tests.{ltb-false}
use Rattle.std.specs.List.{position_or_len}
use Rattle.std.specs.Option.{unwrap_or}
use Rattle.basic_laws.specs.First.{first_at}
use Rattle.basic_laws.specs.FirstLaws.{at-within}

before-first : (v : ℕ) (l : List ℕ) → position_or_len (λ c. c == v) l ≡ first_at v l
unfolding first_at
before-first v [] = refl
before-first v (c ∷ l) = by-test (before-first v l) (eqb c v) refl
  where
    by-test : position_or_len (λ c. c == v) l ≡ first_at v l → (t : Bool) → eqb c v ≡ t
        → position_or_len (λ c. c == v) (c ∷ l) ≡ first_at v (c ∷ l)
    by-test rest true e = rw e refl
    by-test rest false e = let more : 1 + position_or_len (λ c. c == v) l ≡ suc (first_at v l) = omega (arith, rest) in
        rw e more

-- a place that is tested against the end, or the end
at-most : (n m : ℕ) → n ≤ m → unwrap_or (cond (ltb n m) (Some n) None) m ≡ n
at-most n m h = by-test (ltb n m) refl
  where
    by-test : (t : Bool) → ltb n m ≡ t → unwrap_or (cond t (Some n) None) m ≡ n
    by-test true e = refl
    by-test false e = let end = ltb-false n m e in omega arith

pub found-at : (v : ℕ) (l : List ℕ) → unwrap_or (position (λ c. c == v) l) (length l) ≡ first_at v l
found-at v l =
    rw (before-first v l) (at-most (first_at v l) (length l) (at-within v l))
