-- A capture of any length, in a buffer of any length: after each piece the host takes the bytes that stand in the
-- buffer, and the next piece is written from its front.
--     Piece                         the bytes of a piece, and the buffer that is lent for it
--     in_one ps                      the bytes of the pieces, put together
--     after_piece r p, handed_of r p  the reader after a piece whose bytes were taken, and those bytes
--     handed r ps                   the bytes that the host takes, one piece after the other
--     Roomy r ps                    no piece is refused for want of room
use Rattle.std.specs.Prelude.{ℕ, ◌≢◌, List, [], ◌∷◌, ◌++◌, take}
use Rattle.refusals.specs.Refusals.{no_room}
use Rattle.captures.specs.declared.edges.Reader.{Reader}
use Rattle.captures.specs.Edges.{taken_so_far, feed_answer, feed_leaves}

pub record Piece : Type 0 where
  pub bytes : List ℕ
  pub buffer : List ℕ

unfoldable pub in_one : List Piece → List ℕ
in_one [] = []
in_one (p ∷ ps) = p.bytes ++ in_one ps

abbrev pub after_piece : Reader → Piece → Reader
after_piece r p = taken_so_far (feed_answer r p.buffer p.bytes).reader

-- the bytes that a piece leaves in its buffer
abbrev pub handed_of : Reader → Piece → List ℕ
handed_of r p = take (feed_answer r p.buffer p.bytes).written (feed_leaves r p.buffer p.bytes)

unfoldable pub handed : Reader → List Piece → List ℕ
handed r [] = []
handed r (p ∷ ps) = handed_of r p ++ handed (after_piece r p) ps

abbrev pub Roomy : Reader → List Piece → Type 0
Roomy r [] = Unit
Roomy r (p ∷ ps) = ((feed_answer r p.buffer p.bytes).refusal ≢ no_room) × Roomy (after_piece r p) ps
