-- How much room a piece needs: for the line of the frame that was open, at most 135 bytes, and for the eight characters
-- of an unfinished line, as if each of them were written, 143 bytes in all; and one for each byte of the piece.
--     piece_room              the bytes that a piece needs besides its own
--     Ample ps               each piece has so much room
use Rattle.std.specs.Prelude.{ℕ, ◌+◌, ◌≤◌, List, length}
use Rattle.basic_laws.specs.Each.{Each}
use Rattle.capture_laws.specs.Taken.{Piece}

abbrev pub piece_room : ℕ
piece_room = 143

abbrev pub Ample : List Piece → Type 0
Ample ps = Each (λ p. piece_room + length p.bytes ≤ length p.buffer) ps
