-- A line gathered from pieces of a text into a buffer, up to as many characters as tell that it is over-long.
--     most_held                        one character more than a line may have
--     fitting line held cs            as many of some characters as there is room for behind those that are held
--     part_at piece at                 the line that goes on at a place of a piece; past the end one without characters
--                                     and without a feed
--     taken line held piece at        what that part of a line comes to: how many characters are held then, whether the
--                                     feed has come, and the place behind
--     taken_leaves line held piece at  the buffer after it
use Rattle.std.specs.Prelude.{ℕ, ◌+◌, ◌-◌, List, length, take, drop}
use Rattle.basic_laws.specs.Laid.{laid}
use Rattle.text.specs.Lines.{Line, first_line, width}
use Rattle.sessions.specs.declared.gathering.Gathered.{Gathered}

abbrev pub most_held : ℕ
most_held = 81

abbrev pub fitting : List ℕ → ℕ → List ℕ → List ℕ
fitting line held cs = take (length line - held) cs

abbrev pub part_at : List ℕ → ℕ → Line
part_at piece at = first_line (drop at piece)

abbrev pub taken : List ℕ → ℕ → List ℕ → ℕ → Gathered
taken line held piece at = record {
  held = held + length (fitting line held (part_at piece at).chars);
  whole = (part_at piece at).fed;
  next = at + width (part_at piece at);
}

abbrev pub taken_leaves : List ℕ → ℕ → List ℕ → ℕ → List ℕ
taken_leaves line held piece at = laid line held (fitting line held (part_at piece at).chars)
