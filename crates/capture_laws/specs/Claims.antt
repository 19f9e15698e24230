-- What is claimed of a reader of captures (the claims themselves are in `Theorem`).
--     feeds x ss             reader and buffer after pieces fed one after the other
--     Filled n out c x       reader and buffer hold the course c behind n bytes: its frames are laid there, one line
--                            behind the other, and all else of the buffer is as it was
--     Closed n out c a l     the answer a of an end and the buffer l hold the course c so, and after an accepted end
--                            the reader is fresh
use Rattle.std.specs.Prelude.{ℕ, ◌+◌, ◌≡◌, List, [], ◌∷◌, length}
use Rattle.basic_laws.specs.Laid.{laid}
use Rattle.refusals.specs.Refusals.{accepted}
use Rattle.frame.specs.Recording.{write_all}
use Rattle.captures.specs.Partial.{gathered_time}
use Rattle.captures.specs.declared.edges.Answer.{Answer}
use Rattle.captures.specs.Edges.{fresh_reader, Reading, fed_bytes}
use Rattle.capture_laws.specs.Capture.{EdgeCourse}

unfoldable pub feeds : Reading → List (List ℕ) → Reading
feeds x [] = x
feeds x (s ∷ ss) = feeds (fed_bytes x.reader x.out s) ss

pub record Filled (n : ℕ) (out : List ℕ) (c : EdgeCourse) (x : Reading) : Type 0 where
  pub refusal : x.reader.refusal ≡ c.refusal
  pub written : x.reader.written ≡ n + length (write_all c.frames)
  pub wire : x.reader.wire ≡ c.wire
  pub line : c.refusal ≡ accepted → x.reader.line ≡ gathered_time c.left
  pub laid_out : x.out ≡ laid out n (write_all c.frames)

-- the answer and the buffer hold the course behind n bytes
pub record Closed (n : ℕ) (out : List ℕ) (c : EdgeCourse) (a : Answer) (l : List ℕ) : Type 0 where
  pub refusal : a.refusal ≡ c.refusal
  pub written : a.written ≡ n + length (write_all c.frames)
  pub laid_out : l ≡ laid out n (write_all c.frames)
  pub restarted : c.refusal ≡ accepted → a.reader ≡ fresh_reader
