-- An answer of any number of lines, said at the front of what is lent.
--     room                   the bytes that an answer is lent: more than any answer needs
--     whole_said b a out      what saying the answer a comes to: how many bytes of text there are and the bench, or
--                            refusal 1 and the bench b where less is lent
--     whole_left a out        the lent bytes after it: the text from byte 0 on, or as they were
--     Says d a d' r          what a part of a call has come to: the answer a, its text at the front of what is lent and
--                            within the room
use Rattle.std.specs.Prelude.{ℕ, ◌≤◌, ◌≡◌, List, leb, length}
use Rattle.std.specs.Prelude.{if◌then◌else◌}
use Rattle.basic_laws.specs.Laid.{laid}
use Rattle.refusals.specs.Refusals.{accepted, no_room}
use Rattle.bench.specs.declared.Bench.{Bench}
use Rattle.bench_answers.specs.Said.{Answered}
use Rattle.bench_answers.specs.declared.call_answers.Said.{Said}

abbrev pub room : ℕ
room = 4096

-- an answer where there is room
abbrev pub saying : Answered → Said
saying a = record { refusal = accepted; count = length a.text; bench = a.bench }

abbrev pub whole_said : Bench → Answered → List ℕ → Said
whole_said b a out = if leb room (length out) then saying a else record { refusal = no_room; count = 0; bench = b }

abbrev pub whole_left : Answered → List ℕ → List ℕ
whole_left a out = if leb room (length out) then laid out 0 a.text else out

pub record Says (d : List ℕ) (a : Answered) (d' : List ℕ) (r : Said) : Type 0 where
  pub said : r ≡ saying a
  pub laid-is : d' ≡ laid d 0 a.text
  pub fits : length a.text ≤ room
