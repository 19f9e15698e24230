-- What is printed for a piece of a capture or its end: the frames that stand in the buffer, and where a refusal has
-- come its line behind them. The bytes are handed on before the next call, which fills the buffer from its front.
--     refused_line n              REFUSED, the number and a feed
--     behind_refusal out at n     the place behind that line, or the place itself where it has no room
--     printed_for a out           what is printed for the answer a of a reader
--     printed_leaves a out        the buffer with it
use Rattle.std.specs.Prelude.{ℕ, true, false, List, eqb}
use Rattle.std.specs.Prelude.{if◌then◌else◌}
use Rattle.refusals.specs.Refusals.{accepted}
use Rattle.text.specs.Laying.{lay_answer, lay_leaves}
use Rattle.naming.specs.Naming.{refused_name}
use Rattle.naming.specs.Printing.{printed_name}
use Rattle.captures.specs.declared.edges.Answer.{Answer}
use Rattle.captures.specs.Edges.{taken_so_far}
use Rattle.captures.specs.declared.edge_printing.Printed.{Printed}

abbrev pub refused_line : ℕ → List ℕ
refused_line n = printed_name (refused_name n)

abbrev pub behind_refusal : List ℕ → ℕ → ℕ → ℕ
behind_refusal out at n = if eqb (lay_answer out at (refused_line n)).refusal accepted
    then (lay_answer out at (refused_line n)).next else at

abbrev pub printed_for : Answer → List ℕ → Printed
printed_for a out =
    if eqb a.refusal accepted then record { reader = taken_so_far a.reader; written = a.written; going = true }
    else record {
      reader = taken_so_far a.reader;
      written = behind_refusal out a.written a.refusal;
      going = false;
    }

abbrev pub printed_leaves : Answer → List ℕ → List ℕ
printed_leaves a out = if eqb a.refusal accepted then out else lay_leaves out a.written (refused_line a.refusal)
