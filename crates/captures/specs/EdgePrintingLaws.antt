-- One law for each way in which a line of a refusal and an answer can come out.
use Rattle.std.specs.Prelude.{ℕ, ◌≡◌, ◌≢◌, true, false, List, eqb}
use Rattle.std.proofs.Common.{eq-eqb, ne_eqb}
use Rattle.basic_laws.specs.ChoiceLaws.{choice-then, choice-else}
use Rattle.refusals.specs.Refusals.{accepted}
use Rattle.text.specs.Laying.{lay_answer, lay_leaves}
use Rattle.captures.specs.declared.edges.Answer.{Answer}
use Rattle.captures.specs.Edges.{taken_so_far}
use Rattle.captures.specs.declared.edge_printing.Printed.{Printed}
use Rattle.captures.specs.EdgePrinting.{refused_line, behind_refusal, printed_for, printed_leaves}

module _ (out : List ℕ) (at n : ℕ) where
  pub refusal-short : (lay_answer out at (refused_line n)).refusal ≢ accepted → at ≡ behind_refusal out at n
  refusal-short h =
      choice-else (eqb (lay_answer out at (refused_line n)).refusal accepted) (lay_answer out at (refused_line n)).next at
      (ne_eqb (lay_answer out at (refused_line n)).refusal accepted h)

  pub refusal-laid : (lay_answer out at (refused_line n)).refusal ≡ accepted
      → (lay_answer out at (refused_line n)).next ≡ behind_refusal out at n
  refusal-laid h =
      choice-then (eqb (lay_answer out at (refused_line n)).refusal accepted) (lay_answer out at (refused_line n)).next at
      (eq-eqb (lay_answer out at (refused_line n)).refusal accepted h)

module _ (a : Answer) (out : List ℕ) where
  abbrev on : Printed
  on = record { reader = taken_so_far a.reader; written = a.written; going = true }

  abbrev off : Printed
  off = record { reader = taken_so_far a.reader; written = behind_refusal out a.written a.refusal; going = false }

  pub printed-refused : a.refusal ≢ accepted
      → (record {
        reader = taken_so_far a.reader;
        written = behind_refusal out a.written a.refusal;
        going = false;
      } ≡ printed_for a out)
      × (lay_leaves out a.written (refused_line a.refusal) ≡ printed_leaves a out)
  printed-refused h =
      let e = ne_eqb a.refusal accepted h in (
        choice-else (eqb a.refusal accepted) on off e,
        choice-else (eqb a.refusal accepted) out (lay_leaves out a.written (refused_line a.refusal)) e,
      )

  pub printed-on : a.refusal ≡ accepted
      → (record { reader = taken_so_far a.reader; written = a.written; going = true } ≡ printed_for a out)
      × (out ≡ printed_leaves a out)
  printed-on h =
      let e = eq-eqb a.refusal accepted h in (
        choice-then (eqb a.refusal accepted) on off e,
        choice-then (eqb a.refusal accepted) out (lay_leaves out a.written (refused_line a.refusal)) e,
      )
