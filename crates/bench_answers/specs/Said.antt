-- What the answer to a call is, a text and a bench, and how it is said: the text at the front of what is lent.
--     Answered, says                       a text, and a bench
--     of_change, of_reset, of_slot, of_access  the answer to what a call came to
--     line_said a out                       what saying an answer of one line comes to: the bytes of its text and the
--                                          bench, or refusal 1 where less than a line's room is lent
--     line_left a out                       the lent bytes after it: the text from byte 0 on, or as they were
use Rattle.std.specs.Prelude.{ℕ, List}
use Rattle.bench.specs.declared.Bench.{Bench}
use Rattle.bench.specs.declared.Changed.{Changed}
use Rattle.bench.specs.declared.ResetDone.{ResetDone}
use Rattle.bench.specs.declared.Slotted.{Slotted}
use Rattle.master_rules.specs.declared.Access.{Access}
use Rattle.bench_answers.specs.Answers.{refusal_line, bit_line}
use Rattle.bench_answers.specs.AccessLine.{access_line}
use Rattle.text.specs.Putting.{line_answer, line_leaves}
use Rattle.bench_answers.specs.declared.call_answers.Said.{Said}

pub record Answered : Type 0 where
  pub text : List ℕ
  pub bench : Bench

-- a text, and a bench
abbrev pub says : List ℕ → Bench → Answered
says text b = record { text = text; bench = b }

-- ## By what the call answers

abbrev pub of_change : Changed → Answered
of_change r = says (refusal_line r.refusal) r.bench

abbrev pub of_reset : ResetDone → Answered
of_reset r = says (bit_line r.refusal r.presence) r.bench

abbrev pub of_slot : Slotted → Answered
of_slot r = says (bit_line r.refusal r.line) r.bench

abbrev pub of_access : Access → Answered
of_access r = says (access_line r.refusal r.pad r.reading r.fine) r.bench

-- ## Said in one line

abbrev pub line_said : Answered → List ℕ → Said
line_said a out =
    let w = line_answer out 0 a.text in
    record { refusal = w.refusal; count = w.next; bench = a.bench }

abbrev pub line_left : Answered → List ℕ → List ℕ
line_left a out = line_leaves out 0 a.text
