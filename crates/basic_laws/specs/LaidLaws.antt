-- A list laid over another: nothing laid, one part after another, one element after another, and what is laid read
-- back.
use Rattle.std.specs.Prelude.{ℕ, ◌+◌, ◌<◌, ◌≤◌, ◌≡◌, set, get_or}
use Rattle.std.proofs.Math.Path.{sym, ap}
use Rattle.std.proofs.Common.{◌∙◌, arith, add-zero, le_of_lt, length-append, length-drop, take-append-drop, length-take-le, take-suc, add-one}
use mathlib.Core.List.{List, [], ◌∷◌, ◌++◌, append_assoc, append-nil}
use Rattle.std.proofs.Math.ListN.{length, take, drop, length-take}
use Rattle.std.proofs.Math.Seq.{take_at, drop_at, drop-append-add, drop-drop, sets-eq, take-append_seam}
use Rattle.std.proofs.lemmas.List.Edits.{sets}
use Rattle.basic_laws.specs.Laid.{laid}

module _ {A : Type 0} (d : List A) (at : ℕ) where
  pub laid_none : d ≡ laid d at []
  unfolding laid
  laid_none = sym (rw (add-zero at, append-nil (take at d)) (take-append-drop at d))

  -- as a copy into a part of it leaves it
  pub laid_part : (x : List A) → take at d ++ (x ++ drop (length x) (drop at d)) ≡ laid d at x
  unfolding laid
  laid_part x = ap (λ rest. take at d ++ (x ++ rest)) (drop-drop (length x) at d)
      ∙ sym (append_assoc (take at d) x (drop (at + length x) d))

  pub laid-length : (x : List A) → at + length x ≤ length d → length (laid d at x) ≡ length d
  unfolding laid
  laid-length x h = simp (length-append, length-take, length-drop) (omega arith)

  -- stores at one place after another
  pub laid-sets : (x : List A) → at + length x ≤ length d → sets d at x ≡ laid d at x
  unfolding laid
  laid-sets x h = sets-eq x d at h

  -- one after the other
  pub laid_more : (x y : List A) → at + length x ≤ length d → laid (laid d at x) (at + length x) y ≡ laid d at (x ++ y)
  unfolding laid
  laid_more x y h =
      let p = take at d ++ x in
      let q = drop (at + length x) d in
      let l : length p ≡ at + length x = simp (length-append, length-take) (omega arith) in
      let before : take (at + length x) (p ++ q) ≡ p = take_at p q (at + length x) l in
      let after : drop (at + length x + length y) (p ++ q) ≡ drop (at + length x + length y) d =
      ap (λ (k : ℕ). drop (k + length y) (p ++ q)) (sym l) ∙ drop-append-add p q (length y)
      ∙ drop-drop (length y) (at + length x) d in
      let whole : at + length x + length y ≡ at + length (x ++ y) = rw (length-append x y) (omega arith) in
      rw (before, after, whole, append_assoc (take at d) x y)

  -- what is laid is read back
  pub laid-read : (x : List A) → at ≤ length d → take (length x) (drop at (laid d at x)) ≡ x
  unfolding laid
  laid-read x h =
      let q = drop (at + length x) d in
      rw (append_assoc (take at d) x q, drop_at (take at d) (x ++ q) at (length-take-le at d h)) (take-append_seam x q)

pub laid-store : {A : Type 0} (d : List A) (at : ℕ) (x : List A) (v : A) (n : ℕ) → at + length x ≡ n → n < length d
    → set (laid d at x) n v ≡ laid d at (x ++ (v ∷ []))
laid-store d at x v n e h =
    let f : at + length x ≤ length d = omega arith in
    let l = laid-length d at x f in
    let g : at + length x + 1 ≤ length (laid d at x) = omega arith in
    rw (← e) (laid-sets (laid d at x) (at + length x) (v ∷ []) g ∙ laid_more d at x (v ∷ []) f)

-- ## A list laid element by element

pub laid_next : {A : Type 0} (d : List A) (at : ℕ) (x : List A) (i n : ℕ) (z v : A) → at + i ≡ n → i < length x
    → n < length d
    → v ≡ get_or x i z → set (laid d at (take i x)) n v ≡ laid d at (take (i + 1) x)
laid_next d at x i n z v e h k same =
    let l : at + length (take i x) ≡ n = rw (length-take-le i x (le_of_lt h)) e in
    laid-store d at (take i x) v n l k ∙ rw (add-one i, take-suc x i z h, same)

-- one list laid just behind another
pub laid_then : {A : Type 0} (d : List A) (at : ℕ) (x y : List A) (n : ℕ) → at + length x ≡ n → n ≤ length d
    → laid (laid d at x) n y ≡ laid d at (x ++ y)
laid_then d at x y n e h = rw (← e) (laid_more d at x y (omega arith))

-- what is laid at the front is the front, and there is room for it
pub laid-front : {A : Type 0} (d x d' : List A) (n : ℕ) → n ≡ length x → d' ≡ laid d 0 x → length x ≤ length d
    → (n ≤ length d') × (take n d' ≡ x) × (n ≡ length (take n d'))
laid-front d x d' n count so within =
    let size : length d' ≡ length d = ap length so ∙ laid-length d 0 x (omega arith) in
    let front : take n d' ≡ x = rw (count, so) (laid-read d 0 x (omega arith)) in
    (omega arith, front, count ∙ ap length (sym front))
