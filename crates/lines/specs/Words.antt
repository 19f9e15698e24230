-- A line's words are what stands between its spaces. Two spaces together, a first or a last one, leave an empty word,
-- which is like no word of a call: so fields are parted by exactly one space.
--     words_of s              the words of a line, one more than it has spaces; of an empty line, one empty word
--     word_of ws k            word k, counted from 0; the empty word where there is none
use Rattle.std.specs.Prelude.{ℕ, List, [], ◌∷◌, eqb, get_or}
use Rattle.std.specs.Prelude.{if◌then◌else◌}
use Rattle.text.specs.Lines.{space}

-- one character more in front of the first word
abbrev pub lengthened : ℕ → List (List ℕ) → List (List ℕ)
lengthened c [] = (c ∷ []) ∷ []
lengthened c (w ∷ ws) = (c ∷ w) ∷ ws

unfoldable pub words_of : List ℕ → List (List ℕ)
words_of [] = [] ∷ []
words_of (c ∷ s) = if eqb c space then [] ∷ words_of s else lengthened c (words_of s)

abbrev pub word_of : List (List ℕ) → ℕ → List ℕ
word_of ws k = get_or ws k []
