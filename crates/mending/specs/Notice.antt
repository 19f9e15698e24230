-- The line `N BYTE` that tells what became of a line that was not kept: its number, and the byte of its report, both in
-- plain decimal.
--     notice_line n b                the two fields
--     notice_of n b                  the line; nothing for a line that was kept, whose byte is 0
--     notices_of n bs                what is told of lines by their bytes, one after the other, behind n lines before
--                                   them
--     lines_after n bs               how many lines there are behind them, in 64 bits
--     notices_answer, notices_leaves  what a call on a report answers and leaves; refused with 1 unless the buffer has 25
--                                   bytes for each line
--     RoomToMend                    room for all that can come of a piece
use Rattle.std.specs.Prelude.{ℕ, ◌+◌, ◌*◌, ◌/◌, ◌%◌, ◌^◌, ◌≤◌, Bool, List, [], ◌∷◌, ◌++◌, length, ◌==◌, nat_le}
use Rattle.std.specs.Prelude.{if◌then◌else◌}
use Rattle.basic_laws.specs.Laid.{laid}
use Rattle.refusals.specs.Refusals.{accepted, no_room}
use Rattle.text.specs.Decimal.{decimal}
use Rattle.text.specs.Putting.{line}
use Rattle.mending.specs.declared.answers.Noticed.{Noticed}

unfoldable pub notice_line : ℕ → ℕ → List ℕ
notice_line n b = line (decimal n ∷ decimal b ∷ [])

abbrev pub notice_of : ℕ → ℕ → List ℕ
notice_of n b = if b == 0 then [] else notice_line n b

-- ## The lines of a report

-- the number of the line behind n others, of 64 bits
abbrev pub line_number : ℕ → ℕ
line_number n = (n + 1) % 2 ^ 64

unfoldable pub notices_of : ℕ → List ℕ → List ℕ
notices_of n [] = []
notices_of n (b ∷ bs) = notice_of (line_number n) b ++ notices_of (n + 1) bs

abbrev pub lines_after : ℕ → List ℕ → ℕ
lines_after n bs = (n + length bs) % 2 ^ 64

-- the most that is told of a line: twenty digits, a space, three digits, a feed
abbrev pub most_told : ℕ
most_told = 25

module _ (before : ℕ) (report out : List ℕ) where
  abbrev pub notices_room : Bool
  notices_room = nat_le (length report) (length out / most_told)

  -- how much is told, and how many lines there were in all
  abbrev pub notices_answer : Noticed
  notices_answer =
      if notices_room then record {
        refusal = accepted;
        written = length (notices_of before report);
        lines = lines_after before report;
      }
      else record { refusal = no_room; written = 0; lines = 0 }

  abbrev pub notices_leaves : List ℕ
  notices_leaves = if notices_room then laid out 0 (notices_of before report) else out

-- room for all that can come of so many bytes as these: what is left of them, a report for each of their lines, and
-- what is told of it
pub record RoomToMend (s left report told : List ℕ) : Type 0 where
  pub text : length s ≤ length left
  pub noted : length s ≤ length report
  pub notices : most_told * length s ≤ length told
