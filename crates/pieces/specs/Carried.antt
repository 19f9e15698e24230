-- What a program takes from one read of a text to the next.
--     most_carried            the most characters that can be
--     carried_in c            the characters
--     behind u n s           the n bytes that stand behind u in a buffer
--     reads_left n k w        how many reads may follow one of k bytes, of n that might; none where k is 0 or its answer
--                            was not written
use Rattle.std.specs.Prelude.{ℕ, ◌-◌, Bool, List, eqb, length, take, drop}
use Rattle.std.specs.Prelude.{if◌then◌else◌}
use Rattle.pieces.specs.declared.Carried.{Carried}

abbrev pub most_carried : ℕ
most_carried = 257

unfoldable pub carried_in : Carried → List ℕ
carried_in c = take c.count c.line

abbrev pub behind : List ℕ → ℕ → List ℕ → List ℕ
behind u n s = take n (drop (length u) s)

abbrev pub reads_left : ℕ → ℕ → Bool → ℕ
reads_left n k w = if eqb k 0 then 0 else if w then n - 1 else 0
