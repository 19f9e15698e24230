-- The bits that the master has sent in a pass, as a path: whose codes begin with it, and what those put on the line at
-- the next bit. Whoever has left the path offers 1.
--     agrees p c       whether the code c begins with the path p
--     on_path p S       those of S that agree with p, each by the bits after it
use Rattle.std.specs.Prelude.{◌≡◌, refl, Bool, true, false, not, ◌&&◌, List, [], ◌∷◌, ◌++◌, ℕ, zero, suc, length, get_or, drop}
use Rattle.std.specs.Bool.{beq}
use Rattle.std.proofs.Math.Bool.{and-true, and_assoc}
use Rattle.std.specs.Prelude.{if◌then◌else◌}
use Rattle.basic_laws.specs.ChoiceLaws.{if-and}
use Rattle.basic_laws.specs.Fold.{all}
use Rattle.search_laws.specs.Codes.{Code, first, other_bits, line_of_codes, co_line, follow}

unfoldable pub agrees : List Bool → Code → Bool
agrees [] c = true
agrees (b ∷ p) c = beq (first c) b && agrees p (other_bits c)

unfoldable pub on_path : List Bool → List Code → List Code
on_path [] S = S
on_path (b ∷ p) S = on_path p (follow b S)

pub path-nil : (S : List Code) → on_path [] S ≡ S
unfolding on_path
path-nil S = refl

pub agrees-nil : (c : Code) → agrees [] c ≡ true
unfolding agrees
agrees-nil c = refl

-- ## One bit more

pub path-snoc : (p : List Bool) (b : Bool) (S : List Code) → on_path (p ++ b ∷ []) S ≡ follow b (on_path p S)
unfolding on_path
path-snoc [] b S = refl
path-snoc (x ∷ p) b S = path-snoc p b (follow x S)

getD-first : (c : Code) → first c ≡ get_or c 0 false
getD-first [] = refl
getD-first (b ∷ c) = refl

getD-rest : (j : ℕ) (c : Code) → get_or c (suc j) false ≡ get_or (other_bits c) j false
getD-rest j [] = refl
getD-rest j (b ∷ c) = refl

pub agrees-snoc : (p : List Bool) (d : Bool) (c : Code)
    → agrees (p ++ d ∷ []) c ≡ (agrees p c && beq (get_or c (length p) false) d)
unfolding agrees
agrees-snoc [] d c = simp (getD-first, and-true)
agrees-snoc (b ∷ p) d c = let i = agrees-snoc p d (other_bits c) in simp (getD-rest, i, and_assoc)

-- ## What the line shows after a path

pub all-if : (f : Code → Bool) (b : Bool) (c : Code) (S : List Code)
    → all f (if b then c ∷ S else S) ≡ ((if b then f c else true) && all f S)
unfolding all
all-if f true c S = refl
all-if f false c S = refl

path-none : (p : List Bool) → on_path p [] ≡ []
unfolding on_path follow
path-none [] = refl
path-none (b ∷ p) = path-none p

drop-rest : (j : ℕ) (c : Code) → drop (suc j) c ≡ drop j (other_bits c)
drop-rest zero [] = refl
drop-rest (suc j) [] = refl
drop-rest j (b ∷ c) = refl

path-if : (p : List Bool) (x : Bool) (c : Code) (S : List Code)
    → on_path p (if x then c ∷ S else S) ≡ (if x then on_path p (c ∷ S) else on_path p S)
path-if p true c S = refl
path-if p false c S = refl

path-cons : (p : List Bool) (c : Code) (S : List Code)
    → on_path p (c ∷ S) ≡ (if agrees p c then drop (length p) c ∷ on_path p S else on_path p S)
unfolding on_path agrees follow
path-cons [] c S = refl
path-cons (b ∷ p) c S =
    let i = path-cons p (other_bits c) (follow b S) in
    rw (drop-rest, path-if p (beq (first c) b) (other_bits c) (follow b S), if-and, i)

all-path : (f : Code → Bool) (p : List Bool) (S : List Code)
    → all f (on_path p S) ≡ all (λ c. if agrees p c then f (drop (length p) c) else true) S
unfolding all
all-path f p [] = rw path-none
all-path f p (c ∷ S) = let i = all-path f p S in rw (path-cons, all-if, i)

pub first-drop : (j : ℕ) (c : Code) → first (drop j c) ≡ get_or c j false
first-drop zero [] = refl
first-drop (suc j) [] = refl
first-drop zero (b ∷ c) = refl
first-drop (suc j) (b ∷ c) = first-drop j c

pub line-path : (p : List Bool) (S : List Code)
    → line_of_codes (on_path p S) ≡ all (λ c. if agrees p c then get_or c (length p) false else true) S
line-path p S = simp (all-path, first-drop)

pub co-line-path : (p : List Bool) (S : List Code)
    → co_line (on_path p S) ≡ all (λ c. if agrees p c then not (get_or c (length p) false) else true) S
co-line-path p S = simp (all-path, first-drop)
