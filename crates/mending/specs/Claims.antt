-- What is claimed of every mended text, and of one that comes in pieces.
--     left_of ls              the lines that are written for lines, in order
--     MendedSound s          the claim of one text
--     MendingClaim           that of every text
--     most_held_of_mending      as many characters of an unfinished line as tell that it is over-long
--     CutsClaim              that of every text cut anywhere
use Rattle.std.specs.Prelude.{◌≡◌, ℕ, ◌≤◌, List, [], ◌∷◌, ◌++◌, length, replicate}
use Rattle.basic_laws.specs.Each.{Each}
use Rattle.refusals.specs.Refusals.{accepted}
use Rattle.text.specs.Lines.{Line, lines_of}
use Rattle.pieces.specs.Pieces.{pieces, together}
use Rattle.mending.specs.Mending.{line_refusal, report_byte, lines_left, mended_bytes, mended_text, reports}

unfoldable pub left_of : List Line → List Line
left_of [] = []
left_of (l ∷ ls) = lines_left l ++ left_of ls

pub record MendedSound (s : List ℕ) : Type 0 where
  -- the lines kept and the lines mended, in order, and no others
  pub lines : lines_of (mended_text s) ≡ left_of (lines_of s)
  -- none of them is refused
  pub reads : Each (λ l. line_refusal l ≡ accepted) (lines_of (mended_text s))
  -- mended again they stay as they are, and all are reported as kept
  pub again : mended_text (mended_text s) ≡ mended_text s
  pub zeros : reports (mended_text s) ≡ replicate (length (lines_of (mended_text s))) 0
  -- an output as long as the input has room
  pub fits : length (mended_text s) ≤ length s

abbrev pub MendingClaim : Type 0
MendingClaim = (s : List ℕ) → MendedSound s

abbrev pub most_held_of_mending : ℕ
most_held_of_mending = 257

-- the report on a line, as what is said for it
abbrev pub report_said : Line → List ℕ
report_said l = report_byte l ∷ []

-- what is written, and what is reported, for the pieces of a text is that of the whole
pub record CutsClaim (cs : List (List ℕ)) : Type 0 where
  pub text : pieces mended_bytes most_held_of_mending [] cs ≡ mended_text (together cs)
  pub report : pieces report_said most_held_of_mending [] cs ≡ reports (together cs)
