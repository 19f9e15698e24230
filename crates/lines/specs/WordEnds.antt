-- Where the words of a line end, for a reader that goes from one character to the next.
--     space_at s              how many characters stand before the first space; all where there is none
--     words_ended c           how many words a character ends: a space ends one
use Rattle.std.specs.Prelude.{ℕ, List, eqb}
use Rattle.std.specs.Prelude.{if◌then◌else◌}
use Rattle.basic_laws.specs.First.{first_at}
use Rattle.text.specs.Lines.{space}

abbrev pub space_at : List ℕ → ℕ
space_at s = first_at space s

abbrev pub words_ended : ℕ → ℕ
words_ended c = if eqb c space then 1 else 0
