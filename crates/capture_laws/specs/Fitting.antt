-- A buffer of any length: where it has no room for the lines of all frames, it holds the longest front of them that
-- fits, and refusal 1 has come.
--     fitting room fs        the longest front of the frames fs whose lines fit into so many bytes
--     bytes_in room c         the lines that so much room holds of the course c: all of them, or those of that front
--     refusal_in room c       its refusal in so much room: its own where the lines of all its frames fit, else 1
--     Longest room fs gs     gs are the first k frames of fs; their lines fit, and those of k + 1 do not
--     HeldIn n out c a l     the answer a and the buffer l hold of the course c what has room behind n bytes: the
--                            refusal is that, the count is that of these lines, they are laid there, and all else of
--                            the buffer is as it was
--     fed_in out ss           reader and buffer after a capture in pieces, from the start
--     RoomClaim              that a reader holds so every capture, cut anywhere, in every buffer, and an end behind it
use Rattle.std.specs.Prelude.{ℕ, suc, ◌+◌, ◌-◌, ◌<◌, ◌≤◌, ◌≡◌, List, [], ◌∷◌, leb, length, take}
use Rattle.std.specs.Prelude.{if◌then◌else◌}
use Rattle.basic_laws.specs.Laid.{laid}
use Rattle.refusals.specs.Refusals.{no_room}
use Rattle.pieces.specs.Pieces.{together}
use Rattle.frame.specs.declared.Frame.{Frame}
use Rattle.frame.specs.Writing.{fed_line}
use Rattle.frame.specs.Recording.{write_all}
use Rattle.captures.specs.declared.edges.Answer.{Answer}
use Rattle.captures.specs.Edges.{fresh_reader, Reading, answers_of, end_answer, end_leaves}
use Rattle.capture_laws.specs.Capture.{EdgeCourse, capture, course_ended}
use Rattle.capture_laws.specs.Claims.{feeds}

unfoldable pub fitting : ℕ → List Frame → List Frame
fitting room [] = []
fitting room (f ∷ fs) = if leb (length (fed_line f)) room then f ∷ fitting (room - length (fed_line f)) fs else []

abbrev pub bytes_in : ℕ → EdgeCourse → List ℕ
bytes_in room c =
    if leb (length (write_all c.frames)) room then write_all c.frames
    else write_all (fitting room c.frames)

abbrev pub refusal_in : ℕ → EdgeCourse → ℕ
refusal_in room c = if leb (length (write_all c.frames)) room then c.refusal else no_room

pub record Longest (room : ℕ) (fs gs : List Frame) : Type 0 where
  pub front : gs ≡ take (length gs) fs
  pub fits : length (write_all gs) ≤ room
  pub no_more : length gs < length fs → room < length (write_all (take (suc (length gs)) fs))

pub record HeldIn (n : ℕ) (out : List ℕ) (c : EdgeCourse) (a : Answer) (l : List ℕ) : Type 0 where
  pub refusal : a.refusal ≡ refusal_in (length out - n) c
  pub written : a.written ≡ n + length (bytes_in (length out - n) c)
  pub laid_out : l ≡ laid out n (bytes_in (length out - n) c)

abbrev pub fed_in : List ℕ → List (List ℕ) → Reading
fed_in out ss = feeds record { reader = fresh_reader; out = out } ss

pub record RoomClaim : Type 0 where
  pub longest : (room : ℕ) (fs : List Frame) → Longest room fs (fitting room fs)
  pub fed : (out : List ℕ) (ss : List (List ℕ)) → let x = fed_in out ss in
      HeldIn 0 out (capture (together ss)) (answers_of x.reader) x.out
  pub ends : (out : List ℕ) (ss : List (List ℕ)) → let x = fed_in out ss in
      HeldIn 0 out (course_ended (capture (together ss))) (end_answer x.reader x.out)
      (end_leaves x.reader x.out)
