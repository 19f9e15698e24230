-- A console over a text that comes in pieces cut anywhere: each line is answered in the state that the lines before it
-- left, and no more is held of a line than tells what it asks for.
--     Console                   what is said to a line in a state, and the state after it
--     in_turn C s ls             what is said to lines one after the other, from the state s on
--     Run                       a run so far: the state, and what is held of the line that has no feed yet
--     fresh_run s                a run that begins in the state s, with nothing held
--     grown r l                 the run with the characters of l behind those that are held, cut at 81 (`most_held`)
--     held_line r fed            the line that is held, with its feed or without
--     held_ended C r fed         the run where the held line has its feed, which is answered and held no more, or has
--                               none yet
--     end_said C r fed           what is said then: the answer to the held line, or nothing
--     ran_line C r l             the run after one line of a piece, or after the part of a line that the piece ends with
--     heard_line C r l           what is said to it: nothing where it has no feed yet
--     ran_all, heard_all          the same for lines one after the other
--     run_after C r s            the run after a piece
--     said_on C r s              what is said on the way
--     at_end C r                 what is said at the end of the input: to a held line without a feed, if there is one
--     session C r cs            what is said to the pieces cs and at the end
--     cut l                     a line cut at 81 characters
--     HeldEnough C              that 81 characters of a line tell what is said to it and where it leads
--     SessionClaim C            that what is said does not depend on where the text was cut: it is what is said to the
--                               lines of the whole text in turn
--     run_at s line held         the run of a program: its state, and the line that stands at the front of a buffer
--     Holding line held         so many characters of a line in a buffer of 81
use Rattle.std.specs.Prelude.{ℕ, ◌≤◌, ◌≡◌, Bool, true, false, List, [], ◌∷◌, ◌++◌, ltb, length, take}
use Rattle.std.specs.Prelude.{if◌then◌else◌}
use Rattle.text.specs.Lines.{Line, lines_of}
use Rattle.pieces.specs.Pieces.{together}
use Rattle.sessions.specs.Gathering.{most_held}

pub record Console : Type 1 where
  pub State : Type 0
  pub says : State → Line → List ℕ
  pub next : State → Line → State

-- what is said to lines one after the other, each in the state that those before it left
unfoldable pub in_turn : (C : Console) → C.State → List Line → List ℕ
in_turn C s [] = []
in_turn C s (l ∷ ls) = C.says s l ++ in_turn C (C.next s l) ls

-- ## A run, line by line

pub record Run (S : Type 0) : Type 0 where
  pub state : S
  pub held : List ℕ

abbrev pub fresh_run : {S : Type 0} → S → Run S
fresh_run s = record { state = s; held = [] }

-- the run with more characters of the line, cut where they tell that it is over-long
abbrev pub grown : {S : Type 0} → Run S → Line → Run S
grown r l = record { state = r.state; held = take most_held (r.held ++ l.chars) }

abbrev pub held_line : {S : Type 0} → Run S → Bool → Line
held_line r fed = record { chars = r.held; fed = fed }

-- the held line is answered where it has its feed, and held no more
abbrev pub held_ended : (C : Console) → Run C.State → Bool → Run C.State
held_ended C r fed = if fed then fresh_run (C.next r.state (held_line r true)) else r

abbrev pub end_said : (C : Console) → Run C.State → Bool → List ℕ
end_said C r fed = if fed then C.says r.state (held_line r true) else []

abbrev pub ran_line : (C : Console) → Run C.State → Line → Run C.State
ran_line C r l = held_ended C (grown r l) l.fed

abbrev pub heard_line : (C : Console) → Run C.State → Line → List ℕ
heard_line C r l = end_said C (grown r l) l.fed

-- ## A run, piece by piece

-- the run after some lines of a piece
unfoldable pub ran_all : (C : Console) → Run C.State → List Line → Run C.State
ran_all C r [] = r
ran_all C r (l ∷ ls) = ran_all C (ran_line C r l) ls

-- what is said to them
unfoldable pub heard_all : (C : Console) → Run C.State → List Line → List ℕ
heard_all C r [] = []
heard_all C r (l ∷ ls) = heard_line C r l ++ heard_all C (ran_line C r l) ls

abbrev pub run_after : (C : Console) → Run C.State → List ℕ → Run C.State
run_after C r s = ran_all C r (lines_of s)

abbrev pub said_on : (C : Console) → Run C.State → List ℕ → List ℕ
said_on C r s = heard_all C r (lines_of s)

abbrev pub at_end : (C : Console) → Run C.State → List ℕ
at_end C r = if ltb 0 (length r.held) then C.says r.state (held_line r false) else []

unfoldable pub session : (C : Console) → Run C.State → List (List ℕ) → List ℕ
session C r [] = at_end C r
session C r (c ∷ cs) = said_on C r c ++ session C (run_after C r c) cs

-- ## What is claimed

abbrev pub cut : Line → Line
cut l = record { chars = take most_held l.chars; fed = l.fed }

-- it says what the whole line says, and leads where that leads
pub record HeldEnough (C : Console) : Type 0 where
  pub says_same : (s : C.State) (l : Line) → C.says s (cut l) ≡ C.says s l
  pub next-same : (s : C.State) (l : Line) → C.next s (cut l) ≡ C.next s l

abbrev pub SessionClaim : Console → Type 0
SessionClaim C = HeldEnough C → (s : C.State) (cs : List (List ℕ))
    → session C (fresh_run s) cs ≡ in_turn C s (lines_of (together cs))

-- ## Where a program stands

abbrev pub run_at : {S : Type 0} → S → List ℕ → ℕ → Run S
run_at s line held = record { state = s; held = take held line }

pub record Holding (line : List ℕ) (held : ℕ) : Type 0 where
  pub size : length line ≡ most_held
  pub within : held ≤ most_held
