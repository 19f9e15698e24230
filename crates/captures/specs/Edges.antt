-- A capture that comes in pieces: each line is eight digits, the time of an edge; each frame that an edge closes is
-- written as a line behind those before it. A line is judged at its feed: another character than a digit is refused
-- with 2, then another length with 3, then the edge by the rule over edges, then a frame without room with 1. A refusal
-- changes nothing else and stays.
--     fresh_reader                     a reader before the first byte
--     refused_with r n                 the reader with a refusal
--     with_line r l                    the reader with another unfinished line
--     with_written r n                 the reader with so many bytes in its buffer
--     taken_so_far r                    the reader once the bytes in the buffer were taken: it goes on from its front
--     on_edge r s                      what an edge comes to, by its step: the reader after it, and whether the frame
--                                     that r holds is closed
--     line_ended r                     the same for a line at its feed
--     closed_reader r q out, closed_leaves r out       the reader and the buffer once the frame that r holds is closed,
--                                                    where q was to come after it
--     fed_line_reader r out, fed_line_leaves r out       the two after a feed
--     Reading, on_byte x c             a reader and the buffer that it fills; the two after a byte
--     fed_bytes r out s                the two after a piece
--     feed_answer, feed_leaves r out s  the answer for a piece, and what is left of the buffer
--     end_answer, end_leaves r out      the same for an end; where it is accepted the reader is fresh
use Rattle.std.specs.Prelude.{ℕ, Bool, false, not, ◌&&◌, List, eqb}
use Rattle.std.specs.Prelude.{if◌then◌else◌}
use Rattle.basic_laws.specs.Fold.{fold}
use Rattle.refusals.specs.Refusals.{accepted, not_hex, malformed}
use Rattle.text.specs.Lines.{line_feed}
use Rattle.text.specs.declared.laying.Written.{Written}
use Rattle.frame.specs.Writing.{line_write_answer, line_write_leaves}
use Rattle.captures.specs.declared.pulses.Step.{Step}
use Rattle.captures.specs.declared.pulses.Ending.{Ending}
use Rattle.captures.specs.Rule.{untouched, edge_step, ending_at}
use Rattle.captures.specs.declared.edge_lines.Partial.{Partial}
use Rattle.captures.specs.Partial.{time_digits, no_line, longer_partial}
use Rattle.captures.specs.declared.edges.Reader.{Reader}
use Rattle.captures.specs.declared.edges.Answer.{Answer}
use Rattle.captures.specs.declared.edges.Turn.{Turn}

abbrev pub fresh_reader : Reader
fresh_reader = record { refusal = accepted; written = 0; line = no_line; wire = untouched }

abbrev pub refused_with : Reader → ℕ → Reader
refused_with r n = record { refusal = n; written = r.written; line = r.line; wire = r.wire }

abbrev pub with_line : Reader → Partial → Reader
with_line r l = record { refusal = r.refusal; written = r.written; line = l; wire = r.wire }

abbrev pub with_written : Reader → ℕ → Reader
with_written r n = record { refusal = r.refusal; written = n; line = r.line; wire = r.wire }

abbrev pub taken_so_far : Reader → Reader
taken_so_far r = with_written r 0

-- ## One line

-- an edge: a refusal, or the line after it and no character of the next
abbrev pub on_edge : Reader → Step → Turn
on_edge r s =
    if eqb s.refusal accepted then record {
      closes = s.closes;
      reader = record { refusal = r.refusal; written = r.written; line = no_line; wire = s.wire };
    }
    else record { closes = false; reader = refused_with r s.refusal }

abbrev pub line_ended : Reader → Turn
line_ended r =
    if not r.line.spelt then record { closes = false; reader = refused_with r not_hex }
    else if not (eqb r.line.count time_digits) then record { closes = false; reader = refused_with r malformed }
    else on_edge r (edge_step r.wire r.line.number)

-- ## The frames that are closed

-- the answer of the writer for the frame that is open
abbrev pub frame_written : Reader → List ℕ → Written
frame_written r out = line_write_answer out r.written r.wire.frame

-- the frame that was open is written, and the reader goes on behind it, or it is refused and nothing has come of the
-- line
abbrev pub closed_reader : Reader → Reader → List ℕ → Reader
closed_reader before after out =
    if eqb (frame_written before out).refusal accepted then with_written after (frame_written before out).next
    else refused_with before (frame_written before out).refusal

-- the buffer with the frame that was open
abbrev pub closed_leaves : Reader → List ℕ → List ℕ
closed_leaves r out = line_write_leaves out r.written r.wire.frame

abbrev pub fed_line_reader : Reader → List ℕ → Reader
fed_line_reader r out = if (line_ended r).closes then closed_reader r (line_ended r).reader out else (line_ended r).reader

-- the buffer after a feed
abbrev pub fed_line_leaves : Reader → List ℕ → List ℕ
fed_line_leaves r out = if (line_ended r).closes then closed_leaves r out else out

-- ## Bytes

pub record Reading : Type 0 where
  pub reader : Reader
  pub out : List ℕ

-- whether a refusal has come
abbrev pub stopped : Reader → Bool
stopped r = not (eqb r.refusal accepted)

-- one byte: nothing after a refusal; a feed ends the line; any other is a character of it
unfoldable pub on_byte : Reading → ℕ → Reading
on_byte x c =
    if stopped x.reader then x
    else if eqb c line_feed then record {
      reader = fed_line_reader x.reader x.out;
      out = fed_line_leaves x.reader x.out;
    }
    else record { reader = with_line x.reader (longer_partial x.reader.line c); out = x.out }

-- a piece, byte by byte
abbrev pub fed_bytes : Reader → List ℕ → List ℕ → Reading
fed_bytes r out s = fold on_byte record { reader = r; out = out } s

-- ## The calls

-- what a reader answers
abbrev pub answers_of : Reader → Answer
answers_of r = record { refusal = r.refusal; written = r.written; reader = r }

abbrev pub feed_answer : Reader → List ℕ → List ℕ → Answer
feed_answer r out s = answers_of (fed_bytes r out s).reader

-- the buffer after it
abbrev pub feed_leaves : Reader → List ℕ → List ℕ → List ℕ
feed_leaves r out s = (fed_bytes r out s).out

-- an accepted end
abbrev pub finished_with : ℕ → Answer
finished_with n = record { refusal = accepted; written = n; reader = fresh_reader }

-- an end that closes the last frame
abbrev pub end_closed : Reader → List ℕ → Answer
end_closed r out =
    if eqb (frame_written r out).refusal accepted then finished_with (frame_written r out).next
    else answers_of (refused_with r (frame_written r out).refusal)

-- an end by where the line stands
abbrev pub end_wire : Reader → List ℕ → Ending → Answer
end_wire r out e =
    if not (eqb e.refusal accepted) then answers_of (refused_with r e.refusal)
    else if e.closes then end_closed r out
    else finished_with r.written

-- an end: the refusal again after one, 2 in a line, else by where the line stands
abbrev pub end_answer : Reader → List ℕ → Answer
end_answer r out =
    if stopped r then answers_of r
    else if not (eqb r.line.count 0) then answers_of (refused_with r not_hex)
    else end_wire r out (ending_at r.wire.stage)

-- the buffer, with the last frame where one is closed
abbrev pub end_leaves : Reader → List ℕ → List ℕ
end_leaves r out = if not (stopped r) && eqb r.line.count 0 && (ending_at r.wire.stage).closes
    then closed_leaves r out else out
