-- Words as `split` finds them.
use Rattle.std.specs.Prelude.{ℕ, ◌≤◌, ◌≡◌, refl, List, [], ◌∷◌, eqb, length}
use Rattle.std.proofs.Common.{arith}
use Rattle.std.proofs.lemmas.List.Splits.{length-slice_split}
use Rattle.std.specs.List.{slice_split, onto_first}
use Rattle.text.specs.Lines.{space}
use Rattle.lines.specs.Words.{lengthened, words_of}

-- the parts between a line's spaces are its words
pub words-split : (s : List ℕ) → slice_split (λ c. eqb c space) s ≡ words_of s
unfolding words_of
words-split [] = refl
words-split (c ∷ s) = rw (words-split s, front (words_of s)) refl
  where
    front : (ws : List (List ℕ)) → onto_first c ws ≡ lengthened c ws
    front [] = refl
    front (w ∷ ws) = refl

-- an empty line has one word, so that each line has some
pub words-some : (s : List ℕ) → 1 ≤ length (words_of s)
words-some s = rw (← words-split s, length-slice_split (λ c. eqb c space) s) (omega arith)
