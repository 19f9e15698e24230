-- Text laid into a buffer at a place, where there is room for it: all of it, or nothing and refusal 1.
--     has_room out at n                   whether n characters from a place on end within the buffer
--     lay_answer out at text              the place behind the text, or the refusal
--     lay_leaves out at text              the buffer with the text, or as it was
--     decode_answer, decode_leaves out cs  the same for the bytes that digits stand for, laid at the front; any other
--                                        character is refused with 2
use Rattle.std.specs.Prelude.{ℕ, ◌+◌, Bool, List, leb, length}
use Rattle.std.specs.Prelude.{if◌then◌else◌}
use Rattle.basic_laws.specs.Laid.{laid}
use Rattle.refusals.specs.Refusals.{accepted, no_room, not_hex}
use Rattle.text.specs.declared.laying.Written.{Written}
use Rattle.text.specs.Digits.{spells, bytes_of}

abbrev pub has_room : List ℕ → ℕ → ℕ → Bool
has_room out at n = leb (at + n) (length out)

abbrev pub lay_answer : List ℕ → ℕ → List ℕ → Written
lay_answer out at text =
    if has_room out at (length text) then record { refusal = accepted; next = at + length text }
    else record { refusal = no_room; next = 0 }

abbrev pub lay_leaves : List ℕ → ℕ → List ℕ → List ℕ
lay_leaves out at text = if has_room out at (length text) then laid out at text else out

-- the answer for digits decoded into the front of a buffer: the place behind their bytes, or refusal 2 or 1
abbrev pub decode_answer : List ℕ → List ℕ → Written
decode_answer out cs = if spells 16 cs then lay_answer out 0 (bytes_of cs) else record { refusal = not_hex; next = 0 }

-- the buffer with the bytes, or as it was
abbrev pub decode_leaves : List ℕ → List ℕ → List ℕ
decode_leaves out cs = if spells 16 cs then lay_leaves out 0 (bytes_of cs) else out
