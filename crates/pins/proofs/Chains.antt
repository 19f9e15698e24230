-- What std's iterators make, in the words of `basic_laws`.
--     those-counted     how many pass
use Prim.Native.Nat.{◌+◌}
use Rattle.std.specs.Prelude.{◌≡◌, Bool, true, false, List, ◌∷◌, count_by, length, cond}
use Rattle.std.specs.Prelude.{if◌then◌else◌}
use Rattle.std.proofs.Common.{refl, sym, arith}
use Rattle.std.proofs.lemmas.List.Recursion.{is_count_by}
use Rattle.basic_laws.specs.Each.{those}

pub those-counted : {A : Type 0} (p : A → Bool) (l : List A) → count_by p l ≡ length (those p l)
unfolding those
those-counted p l = sym (is_count_by (λ m. length (those p m)) p refl (λ x m. by-test x m (p x)) l)
  where
    by-test : (x : _) (m : List _) (t : Bool)
        → length (if t then x ∷ those p m else those p m) ≡ cond t (1 + length (those p m)) (length (those p m))
    by-test x m true = omega arith
    by-test x m false = refl
