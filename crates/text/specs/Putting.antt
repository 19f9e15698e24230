-- Lines of fields, put into a lent buffer field by field. A line is laid where 64 bytes are left from its place on,
-- more than any line needs; else it is refused with 1.
--     line fields                fields with a space between two of them and a line feed at the end
--     flag b                     a truth value, 0 or 1
--     field_leaves out at x c     the buffer with the field x at a place and the character c behind it; of the two, what
--                                does not fit is left out
--     field_next out at x c       the place behind them; 0 where c did not fit
--     Puts d at x d' r           what every part of a line comes to: where x fits into d from a place on, d' is d with
--                                x there, and r is the place behind it
--     line_answer out at x        the place behind the line x, or refusal 1
--     line_leaves out at x        the buffer with the line, or as it was
use Rattle.std.specs.Prelude.{ℕ, ◌+◌, ◌≤◌, ◌≡◌, Bool, List, [], ◌∷◌, ◌++◌, length}
use Rattle.std.specs.Prelude.{if◌then◌else◌}
use Rattle.basic_laws.specs.Laid.{laid}
use Rattle.refusals.specs.Refusals.{accepted, no_room}
use Rattle.text.specs.Ascii.{ascii}
use Rattle.text.specs.Laying.{has_room, lay_answer, lay_leaves}
use Rattle.text.specs.declared.laying.Written.{Written}

-- ## Fields

abbrev pub line : List (List ℕ) → List ℕ
line [] = ascii "\n"
line (f ∷ []) = f ++ ascii "\n"
line (f ∷ g ∷ fs) = f ++ (ascii " " ++ line (g ∷ fs))

abbrev pub flag : Bool → List ℕ
flag b = if b then ascii "1" else ascii "0"

abbrev pub field_leaves : List ℕ → ℕ → List ℕ → ℕ → List ℕ
field_leaves out at x c = lay_leaves (lay_leaves out at x) (lay_answer out at x).next (c ∷ [])

abbrev pub field_next : List ℕ → ℕ → List ℕ → ℕ → ℕ
field_next out at x c = (lay_answer (lay_leaves out at x) (lay_answer out at x).next (c ∷ [])).next

pub record Puts (d : List ℕ) (at : ℕ) (x d' : List ℕ) (r : ℕ) : Type 0 where
  pub puts : at + length x ≤ length d → (d' ≡ laid d at x) × (r ≡ at + length x)

-- ## Lines

-- what must be left for a line
abbrev pub line_room : ℕ
line_room = 64

abbrev pub line_answer : List ℕ → ℕ → List ℕ → Written
line_answer out at x = if has_room out at line_room then record { refusal = accepted; next = at + length x }
    else record { refusal = no_room; next = 0 }

abbrev pub line_leaves : List ℕ → ℕ → List ℕ → List ℕ
line_leaves out at x = if has_room out at line_room then laid out at x else out
