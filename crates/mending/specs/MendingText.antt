-- What the calls on a whole text and on a piece of one answer and leave. Both are refused with 1, and change nothing,
-- where the output is shorter than the text or the report has fewer places than the text has lines.
--     text_room s out report                              whether there is room
--     text_answer, text_written, text_reported              of a whole text: the answer, the output, the report
--     PieceAnswer, piece_written, piece_reported           of a piece: the answer, the output, the report
--     TextWithin                                         that what is answered is within the buffers
use Rattle.std.specs.Prelude.{◌≡◌, ℕ, ◌≤◌, Bool, ◌&&◌, List, [], length, nat_le}
use Rattle.std.specs.Prelude.{if◌then◌else◌}
use Rattle.basic_laws.specs.Laid.{laid}
use Rattle.refusals.specs.Refusals.{accepted, no_room}
use Rattle.text.specs.Lines.{lines_of}
use Rattle.pieces.specs.Carried.{carried_in}
use Rattle.pieces.specs.Pieces.{whole, said_whole, carried}
use Rattle.mending.specs.Mending.{mended_bytes, mended_text, reports}
use Rattle.mending.specs.Claims.{most_held_of_mending, report_said}
use Rattle.mending.specs.declared.texts.TextMended.{TextMended}
use Rattle.mending.specs.declared.texts.PieceMended.{PieceMended}

module _ (s out report : List ℕ) where
  -- an output as long as the text, and a place of the report for each line
  abbrev pub text_room : Bool
  text_room = nat_le (length s) (length out) && nat_le (length (lines_of s)) (length report)

  -- ## A whole text

  abbrev pub text_answer : TextMended
  text_answer =
      if text_room then record { refusal = accepted; written = length (mended_text s); lines = length (lines_of s) }
      else record { refusal = no_room; written = 0; lines = 0 }

  abbrev pub text_written : List ℕ
  text_written = if text_room then laid out 0 (mended_text s) else out

  abbrev pub text_reported : List ℕ
  text_reported = if text_room then laid report 0 (reports s) else report

  -- ## A piece: its lines that have their feed; what is left of it is carried over

  pub record PieceAnswer (r : PieceMended) : Type 0 where
    pub refusal : r.refusal ≡ (if text_room then accepted else no_room)
    pub written : r.written ≡ (if text_room then length (said_whole mended_bytes s) else 0)
    pub lines : r.lines ≡ (if text_room then length (whole (lines_of s)) else 0)
    pub carries : carried_in r.carried ≡ (if text_room then carried most_held_of_mending s else [])
    pub text-within : r.written ≤ length out
    pub noted-within : r.lines ≤ length report

  abbrev pub piece_written : List ℕ
  piece_written = if text_room then laid out 0 (said_whole mended_bytes s) else out

  abbrev pub piece_reported : List ℕ
  piece_reported = if text_room then laid report 0 (said_whole report_said s) else report

-- what a caller needs to take the parts of its buffers
pub record TextWithin (out report : List ℕ) (r : TextMended) : Type 0 where
  pub text : r.written ≤ length out
  pub noted : r.lines ≤ length report
