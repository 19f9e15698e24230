-- A recording of any length, read in pieces (the scope, "Frames": one line is printed for each line of the recording):
-- what a text in pieces is (`Pieces`), with the printed text of a line, of which ten bytes are the most for each byte
-- of a line. At most 135 characters of an unfinished line are carried: so many tell that the line is over-long, and all
-- over-long lines print the same.
--     printed s              what is printed for a whole recording
use Rattle.std.specs.Prelude.{ℕ, List}
use Rattle.pieces.specs.Pieces.{said}
use Rattle.naming.specs.Printing.{printed_line}

abbrev pub printed : List ℕ → List ℕ
printed s = said printed_line s

-- one character more than a line may have
abbrev pub most_held_of_recording : ℕ
most_held_of_recording = 135

-- an empty line is refused with ten bytes
abbrev pub most_printed : ℕ
most_printed = 10
