-- What the std's chains and tests come to: how many spaces stand at the end of some characters, and `==` of texts.
use Rattle.std.specs.Prelude.{ℕ, zero, suc, ◌+◌, ◌-◌, ◌≤◌, ◌≡◌, Bool, true, false, ◌&&◌, List, [], ◌∷◌, ◌++◌, eqb, length, take, get_or, reverse, cond}
use Rattle.std.proofs.Common.{refl, ap, ◌∙◌, arith, eqb-true, take_all, length-take-le, add-one}
use Rattle.std.proofs.lemmas.Bool.{eqb-false}
use Rattle.std.proofs.lemmas.List.{take_more, reverse-append}
use Rattle.std.proofs.lemmas.List.Folds.{length-prefix_len}
use Rattle.std.specs.List.{prefix_len}
use Rattle.std.specs.Cmp.Lexicographic.{pointwise}
use Rattle.basic_laws.specs.Same.{same}
use Rattle.text.specs.Lines.{space}
use Rattle.mending.specs.Mending.{is_space, unspaced}
use Rattle.mending.specs.StepLaws.{space-off, space-none}

-- the spaces at the end of the first i characters, and what is left without them
trailing : (s : List ℕ) (i : ℕ) → i ≤ length s
    → prefix_len is_space (reverse (take i s)) + length (unspaced (take i s)) ≡ i
unfolding unspaced
trailing s zero h = refl
trailing s (suc i) h =
    let x = get_or s i 0 in
    let more : take (suc i) s ≡ take i s ++ (x ∷ []) = rw (add-one i) at (take_more s i 0 (omega arith)) in
    let back : reverse (take (suc i) s) ≡ x ∷ reverse (take i s) =
    ap reverse more ∙ reverse-append (take i s) (x ∷ []) in
    rw back (by-test (is_space x) refl (trailing s i (omega arith)))
  where
    by-test : (t : Bool) → is_space (get_or s i 0) ≡ t
        → prefix_len is_space (reverse (take i s)) + length (unspaced (take i s)) ≡ i
        → cond t (1 + prefix_len is_space (reverse (take i s))) 0 + length (unspaced (take (suc i) s)) ≡ suc i
    by-test true e before =
        let off = rw (add-one i) at (space-off s i (omega arith) (eqb-true (get_or s i 0) space e)) in
        rw off (omega arith)
    by-test false e before =
        let none = rw (add-one i) at (space-none s i (omega arith) (eqb-false (get_or s i 0) space e)) in
        let size = length-take-le (suc i) s h in
        rw none (omega arith)

pub unspaced-size : (s : List ℕ) → length s - length (take (prefix_len is_space (reverse s)) (reverse s))
    ≡ length (unspaced s)
unspaced-size s =
    let whole : take (length s) s ≡ s = take_all (length s) s (omega arith) in
    let e = rw whole at (trailing s (length s) (omega arith)) in
    let p = length-prefix_len is_space (reverse s) in
    omega arith

-- `==` of two texts is the test of sameness
pub pointwise-same : (v w : List ℕ) → pointwise eqb v w ≡ same v w
unfolding same
pointwise-same [] [] = refl
pointwise-same [] (y ∷ w) = refl
pointwise-same (x ∷ v) [] = refl
pointwise-same (x ∷ v) (y ∷ w) = ap (λ (b : Bool). eqb x y && b) (pointwise-same v w)
