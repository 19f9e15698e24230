-- A console and a conversion so small that what they say is seen at a glance.
--     turn_told v            a line that says whose turn it is
--     turns                  the console that says to the lines a and b in turn
--     empty_told s           y where a text is empty, else n
use Rattle.std.specs.Prelude.{ℕ, Bool, not, List, [], ◌∷◌, eqb, length}
use Rattle.std.specs.Prelude.{if◌then◌else◌}
use Rattle.sessions.specs.Session.{Console}

abbrev pub turn_told : Bool → List ℕ
turn_told v = (if v then 0x61 else 0x62) ∷ 0x0A ∷ []

abbrev pub turns : Console
turns = record { State = Bool; says = λ v l. turn_told v; next = λ v l. not v }

abbrev pub empty_told : List ℕ → List ℕ
empty_told s = (if eqb (length s) 0 then 0x79 else 0x6E) ∷ []
