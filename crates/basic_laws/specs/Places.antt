-- Places of a list: what stands at one within it, what stands from one on, a store past the front, and the rest of a
-- list of one value.
use Rattle.std.specs.Prelude.{ℕ, zero, suc, ◌<◌, ◌≤◌, ◌+◌, ◌-◌, ◌≡◌, refl, List, [], ◌∷◌, ◌++◌, length, get_or, set, take, drop, replicate}
use Rattle.std.proofs.Common.{arith, length-drop, take_all}

pub getD-within : {A : Type 0} (l : List A) (i : ℕ) (d e : A) → i < length l → get_or l i d ≡ get_or l i e
getD-within [] i d e h = absurd (omega arith)
getD-within (x ∷ l) zero d e h = refl
getD-within (x ∷ l) (suc i) d e h = getD-within l i d e (omega arith)

-- what stands from a place on, as code writes a part of a slice
pub part-all : {A : Type 0} (l : List A) (n : ℕ) → take (length l - n) (drop n l) ≡ drop n l
part-all l n = let s = length-drop n l in let h : length (drop n l) ≤ length l - n = omega arith in
    take_all (length l - n) (drop n l) h

-- ## A store past the front

pub set-append-add : {A : Type 0} (l m : List A) (n : ℕ) (a : A) → set (l ++ m) (length l + n) a ≡ l ++ set m n a
set-append-add [] m n a = let e : 0 + n ≡ n = omega arith in rw e
set-append-add (x ∷ l) m n a =
    let e : suc (length l) + n ≡ suc (length l + n) = omega arith in
    rw (e, set-append-add l m n a)

pub drop-replicate : {A : Type 0} (n m : ℕ) (a : A) → drop n (replicate m a) ≡ replicate (m - n) a
drop-replicate zero m a = let e : m - 0 ≡ m = omega arith in rw e
drop-replicate (suc n) zero a = let e : 0 - suc n ≡ 0 = omega arith in rw e
drop-replicate (suc n) (suc m) a = let e : suc m - suc n ≡ m - n = omega arith in rw e (drop-replicate n m a)
