-- A recording named call by call, for a host that hands it over in pieces (the requests, "Long recordings from a C
-- host"). A call is given the characters that are held of an unfinished line, a piece, the place in it from which to go
-- on, and whether the recording ends with the piece.
--     number_told n                  the number of a name, 1 to 6, or 100 and that of the refusal
--     line_in_hand u b                the first line of the characters u and the bytes b behind them; u stands before any
--                                   feed
--     held_from u b                  what is held of it: at most 135 characters
--     line_told l ended next         what the line comes to
--     next_answer, next_leaves        what a call answers, and the buffer of the unfinished line after it
--     lent_answer, lent_leaves        the same for a buffer of any length: refusal 1 where it is too short
use Rattle.std.specs.Prelude.{ℕ, ◌+◌, min, Bool, false, not, ◌&&◌, List, ◌++◌, eqb, leb, length, take, drop}
use Rattle.std.specs.Prelude.{if◌then◌else◌}
use Rattle.basic_laws.specs.Laid.{laid}
use Rattle.refusals.specs.Refusals.{accepted, no_room}
use Rattle.text.specs.Lines.{Line, first_line, width}
use Rattle.naming.specs.Streaming.{most_held_of_recording}
use Rattle.naming.specs.Naming.{name_number, refused_name, line_named}
use Rattle.naming.specs.declared.Named.{Named}
use Rattle.host.specs.declared.Answer.{Answer}

-- ## The numbers

-- the recording is over
abbrev pub done : ℕ
done = 0

-- the next piece is wanted
abbrev pub more_wanted : ℕ
more_wanted = 7

-- the number of a name, or of the refusal in its place
abbrev pub number_told : Named → ℕ
number_told n = if eqb n.refusal accepted then name_number n.name else 100 + n.refusal

-- ## The line in hand

-- the characters that are held, whatever they are, and those behind them up to the first feed of the bytes or their end
abbrev pub line_in_hand : List ℕ → List ℕ → Line
line_in_hand u b = record { chars = u ++ (first_line b).chars; fed = (first_line b).fed }

-- what is held of such characters: so many as tell that a line is over-long
abbrev pub held_from : List ℕ → List ℕ → List ℕ
held_from u more = take most_held_of_recording (u ++ more)

-- ## What it comes to

-- a name or a refusal; nothing is held then
abbrev pub told_name : Named → ℕ → Answer
told_name n next = record { code = n.code; next = next; held = 0; kind = number_told n; raw = n.raw }

-- characters without a feed: where the recording goes on they are held, and the next piece is wanted; where it ends
-- they are its last line
abbrev pub open_told : List ℕ → Bool → ℕ → Answer
open_told cs ended next =
    if not ended then record {
      code = 0;
      next = next;
      held = length (take most_held_of_recording cs);
      kind = more_wanted;
      raw = 0;
    }
    else if eqb (length cs) 0 then record { code = 0; next = next; held = 0; kind = done; raw = 0 }
    else told_name (line_named record { chars = cs; fed = false }) next

abbrev pub line_told : Line → Bool → ℕ → Answer
line_told l ended next = if l.fed then told_name (line_named l) next else open_told l.chars ended next

-- ## A call

-- the place behind the line that starts at a place; a place past the end is the end
abbrev pub place_behind : List ℕ → ℕ → ℕ
place_behind bytes at = min at (length bytes) + width (first_line (drop at bytes))

module _ (line : List ℕ) (held : ℕ) (bytes : List ℕ) (at : ℕ) where
  -- the line in hand, by what the call is given
  abbrev pub given_line : Line
  given_line = line_in_hand (take held line) (drop at bytes)

  abbrev pub next_answer : Bool → Answer
  next_answer ended = line_told given_line ended (place_behind bytes at)

  -- a line that stands whole in the piece leaves the buffer as it was; of any other what is held of it stands at the
  -- front
  abbrev pub next_leaves : List ℕ
  next_leaves = if eqb held 0 && given_line.fed then line else laid line 0 (take most_held_of_recording given_line.chars)

  -- the buffer may be too short, which is refused with 1
  abbrev pub lent_answer : Bool → Answer
  lent_answer ended = if leb most_held_of_recording (length line) then next_answer ended else told_name (refused_name no_room) 0

  abbrev pub lent_leaves : List ℕ
  lent_leaves = if leb most_held_of_recording (length line) then next_leaves else line
