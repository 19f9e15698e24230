-- What a program prints that hands on, after each piece and after the end, the bytes that stand in its buffer, and
-- stops at a refusal; and what has to be printed for a capture.
--     transcript s           the lines of the frames of a capture with its end, and behind them that of a refusal
--     printed_run r ps out    what is handed on for the pieces ps and, where none of them is refused, for the end, with
--                            out lent for it
--     enough_room             the bytes that a buffer needs besides those of its piece
--     Lent ps                each piece has a buffer with so much room
--     Waiting r              a reader between two pieces, none of those before it refused
--     just_room s             a buffer with just the room that a piece needs
--     piece_text r s          what a waiting reader hands on for a piece, whatever the buffer
--     piece_after r s         the reader after it
--     end_text r              what it hands on for the end
use Rattle.std.specs.Prelude.{ℕ, ◌+◌, ◌≤◌, ◌≡◌, true, List, [], ◌∷◌, ◌++◌, eqb, length, take, replicate}
use Rattle.std.specs.Prelude.{if◌then◌else◌}
use Rattle.basic_laws.specs.Each.{Each}
use Rattle.basic_laws.specs.Fold.{all}
use Rattle.refusals.specs.Refusals.{accepted}
use Rattle.text.specs.Lines.{not_feed}
use Rattle.frame.specs.Recording.{write_all}
use Rattle.captures.specs.declared.edges.Reader.{Reader}
use Rattle.captures.specs.declared.edges.Answer.{Answer}
use Rattle.captures.specs.Edges.{feed_answer, feed_leaves, end_answer, end_leaves, taken_so_far}
use Rattle.captures.specs.declared.edge_printing.Printed.{Printed}
use Rattle.captures.specs.EdgePrinting.{refused_line, printed_for, printed_leaves}
use Rattle.capture_laws.specs.Capture.{EdgeCourse, capture, course_ended, FrameSound}
use Rattle.capture_laws.specs.FillLaws.{holding}
use Rattle.capture_laws.specs.Taken.{Piece}

-- the lines of the frames of a course, and that of its refusal
abbrev pub text_of : EdgeCourse → List ℕ
text_of c = if eqb c.refusal accepted then write_all c.frames else write_all c.frames ++ refused_line c.refusal

-- what has to be printed for a capture
abbrev pub transcript : List ℕ → List ℕ
transcript s = text_of (course_ended (capture s))

-- ## As a program hands it on

-- what an answer leaves at the front of the buffer
abbrev pub handed_on : Answer → List ℕ → List ℕ
handed_on a out = take (printed_for a out).written (printed_leaves a out)

-- what is printed for a piece
abbrev pub of_piece : Reader → Piece → Printed
of_piece r p = printed_for (feed_answer r p.buffer p.bytes) (feed_leaves r p.buffer p.bytes)

-- what is handed on for pieces and for the end, up to a refusal
unfoldable pub printed_run : Reader → List Piece → List ℕ → List ℕ
printed_run r [] out = handed_on (end_answer r out) (end_leaves r out)
printed_run r (p ∷ ps) out =
    handed_on (feed_answer r p.buffer p.bytes) (feed_leaves r p.buffer p.bytes)
    ++ (if (of_piece r p).going then printed_run (of_piece r p).reader ps out else [])

-- 143 for frames (`piece_room`), and 29 for the line of a refusal, as long as any that is printed
abbrev pub enough_room : ℕ
enough_room = 172

abbrev pub Lent : List Piece → Type 0
Lent ps = Each (λ p. enough_room + length p.bytes ≤ length p.buffer) ps

-- ## Call after call

-- a reader between two pieces: nothing stands in the buffer, a frame that a line can carry is open, and the unfinished
-- line has no feed
pub record Waiting (r : Reader) : Type 0 where
  pub left : List ℕ
  pub plain : all not_feed left ≡ true
  pub sound : FrameSound r.wire.frame
  pub is : r ≡ holding r.wire left 0

abbrev pub just_room : List ℕ → List ℕ
just_room s = replicate (enough_room + length s) 0

unfoldable pub piece_text : Reader → List ℕ → List ℕ
piece_text r s = handed_on (feed_answer r (just_room s) s) (feed_leaves r (just_room s) s)

unfoldable pub piece_after : Reader → List ℕ → Reader
piece_after r s = taken_so_far (feed_answer r (just_room s) s).reader

unfoldable pub end_text : Reader → List ℕ
end_text r = handed_on (end_answer r (just_room [])) (end_leaves r (just_room []))
