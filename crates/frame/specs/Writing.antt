-- The line of a frame, and what the writer answers and leaves of the slice. Refusal 3 comes before 1.
--     characters_of f         the characters of a frame's line
--     fed_line f              the line with its feed
--     line_write_answer s at f a refusal, or the place behind the line
--     line_write_leaves s at f what is left of the slice: the line laid at the place, or all as it was on a refusal
use Rattle.std.specs.Prelude.{ℕ, Bool, List, [], ◌∷◌, ◌++◌, take}
use Rattle.std.specs.Prelude.{if◌then◌else◌}
use Rattle.basic_laws.specs.Bits.{bit_number}
use Rattle.refusals.specs.Refusals.{malformed}
use Rattle.text.specs.Digits.{hex_digits, hex_of}
use Rattle.text.specs.Lines.{line_feed}
use Rattle.text.specs.declared.laying.Written.{Written}
use Rattle.text.specs.Laying.{lay_answer, lay_leaves}
use Rattle.frame.specs.declared.Frame.{Frame}
use Rattle.frame.specs.Frames.{bytes_for, lineable}

-- 01 or 00, then the four digits of the count
abbrev pub head_of : Bool → ℕ → List ℕ
head_of p n = hex_digits 2 (bit_number p) ++ hex_digits 4 n

-- the bytes in which its slots lie
abbrev pub slot_bytes : Frame → List ℕ
slot_bytes f = take (bytes_for f.count) f.bits

unfoldable pub characters_of : Frame → List ℕ
characters_of f = head_of f.presence f.count ++ hex_of (slot_bytes f)

abbrev pub fed_line : Frame → List ℕ
fed_line f = characters_of f ++ (line_feed ∷ [])

-- the writer's answer: a frame that no line can carry is refused first, then a lack of room; else the place behind the
-- line
abbrev pub line_write_answer : List ℕ → ℕ → Frame → Written
line_write_answer s at f = if lineable f then lay_answer s at (fed_line f) else record { refusal = malformed; next = 0 }

-- what the writer leaves of the slice
abbrev pub line_write_leaves : List ℕ → ℕ → Frame → List ℕ
line_write_leaves s at f = if lineable f then lay_leaves s at (fed_line f) else s
