-- What one line of a recording says, with the refusals 2 and 3 in the scope's order, and what the reader answers at a
-- place. A line has two digits presence, four digits count, and the slots' bytes.
--     frame_in cs             the frame that digits spell, its bytes filled up with zeros
--     well_formed cs          whether they have the form of a frame's line
--     LineContent            what a line says: a frame, or the number with which it is refused
--     read_line l             what a line says
--     Found, found_at s at    what stands at a place of a recording: a line and the place of the next, or nothing more
--     line_answer_of x         the fields of the reader's answer, case by case
--     line_read_at s at        the reader's answer at a place
use Rattle.std.specs.Prelude.{ℕ, ◌+◌, ◌*◌, Bool, true, false, ◌&&◌, List, [], ◌∷◌, eqb, leb, ltb, length, take, drop}
use Rattle.std.specs.Prelude.{if◌then◌else◌}
use Rattle.basic_laws.specs.Laid.{laid}
use Rattle.refusals.specs.Refusals.{accepted, not_hex, malformed}
use Rattle.text.specs.Digits.{spells, number_in, bytes_of}
use Rattle.text.specs.Lines.{Line, lines_of, width}
use Rattle.frame.specs.declared.Frame.{Frame}
use Rattle.frame.specs.declared.frame_lines.LineRead.{LineRead}
use Rattle.frame.specs.Frames.{no_bits, blank_frame, bytes_for, clear_from, lineable}

-- the most characters that stand before a feed: presence, count and the 64 bytes of 512 slots
abbrev pub longest_line : ℕ
longest_line = 134

-- what the first two digits say
abbrev pub presence_in : List ℕ → ℕ
presence_in cs = number_in 16 (take 2 cs)

-- what the four digits after them say
abbrev pub slot_count_in : List ℕ → ℕ
slot_count_in cs = number_in 16 (take 4 (drop 2 cs))

abbrev pub frame_in : List ℕ → Frame
frame_in cs = record {
  presence = eqb (presence_in cs) 1;
  count = slot_count_in cs;
  bits = laid no_bits 0 (bytes_of (drop 6 cs));
}

-- whether presence is 00 or 01, the length is that of the count, and a line can carry the frame
abbrev pub well_formed : List ℕ → Bool
well_formed cs = leb (presence_in cs) 1 && eqb (length cs) (6 + 2 * bytes_for (slot_count_in cs)) && lineable (frame_in cs)

pub data LineContent : Type 0 where
  carries : Frame → LineContent
  no_frame : ℕ → LineContent

-- what digits say that have a feed behind them
unfoldable pub read_digits : List ℕ → LineContent
read_digits cs = if well_formed cs then carries (frame_in cs) else no_frame malformed

-- what a line says: an over-long one is refused first, then one with another character or no feed
unfoldable pub read_line : Line → LineContent
read_line l =
    if ltb longest_line (length l.chars) then no_frame malformed
    else if spells 16 l.chars && l.fed then read_digits l.chars
    else no_frame not_hex

-- ## The reader's answer

pub data Found : Type 0 where
  found : LineContent → ℕ → Found
  done : ℕ → Found

-- the fields of the answer: for a frame, for a refused line, and where nothing stands; the place of the next line, or
-- the place asked for
abbrev pub line_answer_of : Found → LineRead
line_answer_of (found (carries f) next) = record { refusal = accepted; done = false; next = next; frame = f }
line_answer_of (found (no_frame n) next) = record { refusal = n; done = false; next = next; frame = blank_frame false }
line_answer_of (done at) = record { refusal = accepted; done = true; next = at; frame = blank_frame false }

-- the first of the lines from a place on
abbrev pub first_found : ℕ → List Line → Found
first_found at [] = done at
first_found at (l ∷ ls) = found (read_line l) (at + width l)

-- the line that starts at a place, and the place of the next; nothing at or past the end
abbrev pub found_at : List ℕ → ℕ → Found
found_at s at = first_found at (lines_of (drop at s))

abbrev pub line_read_at : List ℕ → ℕ → LineRead
line_read_at s at = line_answer_of (found_at s at)

-- ## The digits of the slots

-- what they say behind a head that is in order
unfoldable pub read_body : Bool → ℕ → List ℕ → LineContent
read_body p n cs =
    if clear_from n (bytes_of cs) then carries record { presence = p; count = n; bits = laid no_bits 0 (bytes_of cs) }
    else no_frame malformed
