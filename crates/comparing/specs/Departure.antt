-- Where one recording leaves another (document 02, E10). Lines are those of `text`: a line ends with its feed, which
-- belongs to it, or at the end of the data. The part begins at the first line that is not the same in both: it is of
-- the reference where both go on, and of the longer one where the other is a whole-line beginning of it. Equal
-- recordings give an empty part of the reference.
--     shared_lines a b        how many lines from the front are the same in both
--     parted_at n at ls ms    the answer by the lines that are left of each behind n that they share, which begin at a
--                            place
--     departure_of a b        which recording the part comes from, where it begins there, and the number of its first
--                            line, from 1; 0 for equal ones
--     recording_of side a b   the recording of a side
--     part_of a b             the part: the lines of that recording behind those that are shared
--     side_number side        the number of a side: 1 for the reference, 2 for the other
use Rattle.std.specs.Prelude.{ℕ, ◌+◌, List, [], ◌∷◌, length, take, drop}
use Rattle.basic_laws.specs.Same.{alike}
use Rattle.text.specs.Lines.{Line, lines_of, lines_bytes, same_line}
use Rattle.comparing.specs.declared.Side.{Side}
use Rattle.comparing.specs.declared.Side.TheVariants.{Reference, Other}
use Rattle.comparing.specs.declared.Departure.{Departure}

abbrev pub shared_lines : List ℕ → List ℕ → ℕ
shared_lines reference other = alike same_line (lines_of reference) (lines_of other)

-- by what is left of each: nothing of either; of the other alone; of the reference, whatever is left of the other
abbrev pub parted_at : ℕ → ℕ → List Line → List Line → Departure
parted_at n at [] [] = record { side = Reference; place = at; line = 0 }
parted_at n at [] (m ∷ ms) = record { side = Other; place = at; line = n + 1 }
parted_at n at (l ∷ ls) ms = record { side = Reference; place = at; line = n + 1 }

unfoldable pub departure_of : List ℕ → List ℕ → Departure
departure_of reference other =
    let n = shared_lines reference other in
    parted_at n (length (lines_bytes (take n (lines_of reference)))) (drop n (lines_of reference)) (drop n (lines_of other))

abbrev pub recording_of : Side → List ℕ → List ℕ → List ℕ
recording_of Reference reference other = reference
recording_of Other reference other = other

abbrev pub part_of : List ℕ → List ℕ → List ℕ
part_of reference other = lines_bytes (drop (shared_lines reference other)
    (lines_of (recording_of (departure_of reference other).side reference other)))

abbrev pub side_number : Side → ℕ
side_number Reference = 1
side_number Other = 2
