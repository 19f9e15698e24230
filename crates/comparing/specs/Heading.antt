-- The line in front of the part of two recordings: `reference N`, `other N`, or `equal 0`.
--     side_word side n        the word of a side by its number; of equal recordings, whose line is 0, another word
--     heading_of side n       the line
--     heading_for a b         the line in front of the part of two recordings
use Rattle.std.specs.Prelude.{ℕ, List, [], ◌∷◌, eqb}
use Rattle.std.specs.Prelude.{if◌then◌else◌}
use Rattle.text.specs.Ascii.{ascii}
use Rattle.text.specs.Decimal.{decimal}
use Rattle.text.specs.Putting.{line}
use Rattle.comparing.specs.Departure.{departure_of, side_number}
use Rattle.comparing.specs.declared.Side.TheVariants.{Other}

abbrev pub side_word : ℕ → ℕ → List ℕ
side_word side n = if eqb n 0 then ascii "equal" else if eqb side (side_number Other) then ascii "other"
    else ascii "reference"

-- the word, and the number of the line
unfoldable pub heading_of : ℕ → ℕ → List ℕ
heading_of side n = line (side_word side n ∷ decimal n ∷ [])

abbrev pub heading_for : List ℕ → List ℕ → List ℕ
heading_for reference other = heading_of (side_number (departure_of reference other).side)
    (departure_of reference other).line
