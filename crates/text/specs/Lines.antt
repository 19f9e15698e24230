-- How text is cut into lines: a line feed ends a line, and what stands after the last feed is a line without one. Any
-- byte but the feed is a character of its line.
--     Line                   the characters before the feed or the end, and whether there was a feed
--     lines_of s              the lines of some bytes, in order; none of no bytes
--     line_bytes l            a line as it stands in the text, with its feed if it has one
--     lines_bytes ls          lines put back one after the other
--     width l                how many bytes a line takes: its characters, and its feed if it has one
--     same_line l m           whether two lines are the same: their characters, and that both or neither of them has a
--                            feed
--     carriage_return         the character that some editors put in front of the feed
--     space                  the character between two words
--     feed_at s               how many bytes stand before the first feed; all where there is none
--     first_line s            the first line of some bytes
--     not_feed c              whether a character is no line feed
use Rattle.std.specs.Prelude.{ℕ, ◌+◌, Bool, true, false, not, ◌&&◌, List, [], ◌∷◌, ◌++◌, eqb, ltb, length, take}
use Rattle.std.specs.Bool.{beq}
use Rattle.std.specs.Prelude.{if◌then◌else◌}
use Rattle.basic_laws.specs.First.{first_at}
use Rattle.basic_laws.specs.Same.{same}

-- the character that ends a line
abbrev pub line_feed : ℕ
line_feed = 0x0A

abbrev pub carriage_return : ℕ
carriage_return = 0x0D

abbrev pub space : ℕ
space = 0x20

pub record Line : Type 0 where
  pub chars : List ℕ
  pub fed : Bool

-- one character more in front of the first line, which without a feed is the last
abbrev pub longer : ℕ → List Line → List Line
longer c [] = record { chars = c ∷ []; fed = false } ∷ []
longer c (l ∷ ls) = record { chars = c ∷ l.chars; fed = l.fed } ∷ ls

unfoldable pub lines_of : List ℕ → List Line
lines_of [] = []
lines_of (c ∷ s) = if eqb c line_feed then record { chars = []; fed = true } ∷ lines_of s else longer c (lines_of s)

abbrev pub line_bytes : Line → List ℕ
line_bytes l = if l.fed then l.chars ++ (line_feed ∷ []) else l.chars

unfoldable pub lines_bytes : List Line → List ℕ
lines_bytes [] = []
lines_bytes (l ∷ ls) = line_bytes l ++ lines_bytes ls

abbrev pub width : Line → ℕ
width l = if l.fed then length l.chars + 1 else length l.chars

abbrev pub same_line : Line → Line → Bool
same_line l m = beq l.fed m.fed && same l.chars m.chars

abbrev pub feed_at : List ℕ → ℕ
feed_at s = first_at line_feed s

abbrev pub not_feed : ℕ → Bool
not_feed c = not (eqb c line_feed)

abbrev pub first_line : List ℕ → Line
first_line s = record { chars = take (feed_at s) s; fed = ltb (feed_at s) (length s) }
