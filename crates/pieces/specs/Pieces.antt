-- A text of any length, read in pieces cut anywhere, whatever is said for a line. What is carried from one piece to the
-- next is the line that has no feed yet, at most so many characters of it: so many must tell what the whole line says.
--     say_all say ls                what is said for lines, one after the other
--     said say s                   what is said for a whole text
--     whole ls                     the lines that have their feed
--     rest ls                      the characters of the line that has none; nothing where every line has its feed
--     carried most s               what is carried over from a piece
--     together cs                  the pieces put together
--     pieces say most u cs         what is said for the pieces cs, where u was carried over from those before; at the
--                                  end u itself is finished
--     Enough say most              that the first characters, as many as are carried, tell what a line says
--     feed_said, feed_carried        what is said for a piece, and what is carried over from it; nothing where there is
--                                  no room
--     FeedAnswer, feed_written      what a call on one piece answers and leaves
--     finish_answer, finish_written  what the call at the end of the text answers and leaves
use Rattle.std.specs.Prelude.{ℕ, ◌/◌, ◌<◌, ◌≤◌, ◌≡◌, Bool, List, [], ◌∷◌, ◌++◌, leb, length, take}
use Rattle.std.specs.Prelude.{if◌then◌else◌}
use Rattle.basic_laws.specs.Laid.{laid}
use Rattle.refusals.specs.Refusals.{accepted, no_room}
use Rattle.text.specs.Lines.{Line, lines_of}
use Rattle.text.specs.declared.laying.Written.{Written}
use Rattle.pieces.specs.declared.Fed.{Fed}
use Rattle.pieces.specs.Carried.{carried_in}

unfoldable pub say_all : (Line → List ℕ) → List Line → List ℕ
say_all say [] = []
say_all say (l ∷ ls) = say l ++ say_all say ls

abbrev pub said : (Line → List ℕ) → List ℕ → List ℕ
said say s = say_all say (lines_of s)

unfoldable pub whole : List Line → List Line
whole [] = []
whole (l ∷ ls) = if l.fed then l ∷ whole ls else []

unfoldable pub rest : List Line → List ℕ
rest [] = []
rest (l ∷ ls) = if l.fed then rest ls else l.chars

-- what is said for the lines of a piece that have their feed
abbrev pub said_whole : (Line → List ℕ) → List ℕ → List ℕ
said_whole say s = say_all say (whole (lines_of s))

abbrev pub carried : ℕ → List ℕ → List ℕ
carried most s = take most (rest (lines_of s))

-- ## Pieces one after the other

unfoldable pub together : List (List ℕ) → List ℕ
together [] = []
together (c ∷ cs) = c ++ together cs

unfoldable pub pieces : (Line → List ℕ) → ℕ → List ℕ → List (List ℕ) → List ℕ
pieces say most u [] = said say u
pieces say most u (c ∷ cs) = said_whole say (u ++ c) ++ pieces say most (carried most (u ++ c)) cs

-- lines that are at least as long as what is carried, agree in that, and both have a feed or both have none say the
-- same
pub record Enough (say : Line → List ℕ) (most : ℕ) : Type 0 where
  pub some : 0 < most
  pub same : (l m : Line) → most ≤ length l.chars → most ≤ length m.chars
      → take most l.chars ≡ take most m.chars → l.fed ≡ m.fed → say l ≡ say m

-- ## What the two calls answer and leave, with so many bytes of room for each byte of the piece; else refusal 1

abbrev pub room_for : ℕ → List ℕ → List ℕ → Bool
room_for each s out = leb (length s) (length out / each)

module _ (say : Line → List ℕ) (each most : ℕ) (s out : List ℕ) where
  abbrev pub feed_said : List ℕ
  feed_said = if room_for each s out then said_whole say s else []

  abbrev pub feed_carried : List ℕ
  feed_carried = if room_for each s out then carried most s else []

  -- how much was said, and what is carried over
  pub record FeedAnswer (f : Fed) : Type 0 where
    pub refusal : f.refusal ≡ (if room_for each s out then accepted else no_room)
    pub written : f.written ≡ length feed_said
    pub carries : carried_in f.carried ≡ feed_carried
    pub within : f.written ≤ length out

  -- the buffer of what is said: that of the whole lines stands at its front
  abbrev pub feed_written : List ℕ
  feed_written = if room_for each s out then laid out 0 (said_whole say s) else out

module _ (say : Line → List ℕ) (each : ℕ) (s out : List ℕ) where
  -- how much was said of what was carried over, a last line without a feed among it
  abbrev pub finish_answer : Written
  finish_answer = if room_for each s out then record { refusal = accepted; next = length (said say s) }
      else record { refusal = no_room; next = 0 }

  -- the buffer of what is said
  abbrev pub finish_written : List ℕ
  finish_written = if room_for each s out then laid out 0 (said say s) else out
