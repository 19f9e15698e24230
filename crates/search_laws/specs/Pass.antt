-- One pass of a search over the codes alone (the scope, "The master"): at each bit the master reads the line twice and
-- sends the bit that the readings leave, or at a conflict the bit that its plan has there. The next plan departs at the
-- last conflict that was taken at 0.
--     Triple              the two bits read at one place, and the bit sent
--     Plan                the bits to take at conflicts, place by place; 0 past its end, so that the first pass has the
--                         empty plan
--     read_as a b          what the two reads a and b tell: a conflict, the bit that all have, or silence
--     choice a b w        the bit to send after reading a and b, where the plan has w; none where nobody has answered
--     pass n plan S       the n triples of a pass over S; none where nobody has answered
--     found ts            the code of a pass: the bits sent
--     next ts             the plan of the next pass: the bits sent before the last conflict taken at 0, then 1; none
--                         without such a conflict
use Rattle.std.specs.Prelude.{Bool, true, false, not, List, [], ◌∷◌, ℕ, zero, suc}
use Rattle.std.specs.Bool.{beq}
use Rattle.std.proofs.Math.Option.{Option, none, some, map}
use Rattle.std.specs.Prelude.{if◌then◌else◌}
use Rattle.search_laws.specs.Codes.{Code, first, other_bits, line_of_codes, co_line, follow}

pub record Triple : Type 0 where
  pub bit : Bool
  pub co_bit : Bool
  pub sent : Bool

abbrev pub triple : Bool → Bool → Bool → Triple
triple a b d = record { bit = a; co_bit = b; sent = d }

abbrev pub Plan : Type 0
Plan = List Bool

-- What the two reads of a bit tell of those who take part: they differ in it, they all have the same, or nobody is
-- left.
pub data BitRead : Type 0 where
  conflict : BitRead
  agreed : Bool → BitRead
  silence : BitRead

abbrev pub read_as : Bool → Bool → BitRead
read_as false false = conflict
read_as false true = agreed false
read_as true false = agreed true
read_as true true = silence

-- The bit to send, where the plan has w.
abbrev pub sent_at : BitRead → Bool → Option Bool
sent_at conflict w = some w
sent_at (agreed b) w = some b
sent_at silence w = none

abbrev pub choice : Bool → Bool → Bool → Option Bool
choice a b w = sent_at (read_as a b) w

-- Whether a bit may be sent after a read: either at a conflict, else the bit that all have.
abbrev pub may_be_sent : BitRead → Bool → Bool
may_be_sent conflict d = true
may_be_sent (agreed b) d = beq b d
may_be_sent silence d = false

-- What follows from an answer: r where there is none.
abbrev pub on_some : {A R : Type 0} → Option A → R → (A → R) → R
on_some none r f = r
on_some (some x) r f = f x

unfoldable pub pass : ℕ → Plan → List Code → Option (List Triple)
pass zero plan S = some []
pass (suc n) plan S =
    on_some (choice (line_of_codes S) (co_line S) (first plan)) none (λ d.
    map (λ ts. triple (line_of_codes S) (co_line S) d ∷ ts) (pass n (other_bits plan) (follow d S)))

unfoldable pub found : List Triple → Code
found [] = []
found (t ∷ ts) = t.sent ∷ found ts

-- Whether 0 was sent at a conflict.
abbrev pub zero_at : BitRead → Bool → Bool
zero_at conflict d = not d
zero_at (agreed b) d = false
zero_at silence d = false

abbrev pub took_zero : Triple → Bool
took_zero t = zero_at (read_as t.bit t.co_bit) t.sent

-- The plan that a triple leaves, where those after it leave o.
abbrev pub departed : Triple → Option Plan → Option Plan
departed t (some plan) = some (t.sent ∷ plan)
departed t none = if took_zero t then some (true ∷ []) else none

unfoldable pub next : List Triple → Option Plan
next [] = none
next (t ∷ ts) = departed t (next ts)
