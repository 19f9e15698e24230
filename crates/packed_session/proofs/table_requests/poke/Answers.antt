-- By the tests of both fields; two digits are a byte.
use mathlib.Core.Path.{◌≡◌, ap, ◌∙◌}
use Rattle.lines.specs.Fields.{byte_in}
use Rattle.lines.specs.FieldsLaws.{byte-below}
use Rattle.lines.specs.Words.{words_of, word_of}
use Rattle.packed_session.specs.TableRequests.{place_in}
use Rattle.packed_session.proofs.table_requests.poke.Goals as goal
use Rattle.packed_session.proofs.table_requests.poke.Goals.{After-read_fixed-byte}

-- both fields, as they were read
module _ (c : After-read_fixed-byte) where
  place : c.read_decimal-place.result
      ≡ place_in (word_of (words_of c.args.line.now) 1)
  place = c.read_decimal-place.ensures.answer ∙ ap place_in c.word.ensures.answer

  byte : c.read_fixed-byte.result ≡ byte_in (word_of
      (words_of c.args.line.now) 2)
  byte = c.read_fixed-byte.ensures.answer ∙ ap byte_in c.word-2.ensures.answer

pub overflow_cast-result : goal.overflow_cast-result
overflow_cast-result c =
    record {
      fits = rw (byte (goal.at.overflow_cast-result c).After-read_fixed-byte) (byte-below
          (word_of (words_of c.args.line.now) 2));
    }

pub returns-then-byte : goal.returns-then-byte
returns-then-byte c =
    rw (← place (goal.at.returns-then-byte c).After-read_fixed-byte, ← byte (goal.at.returns-then-byte c).After-read_fixed-byte, c.if-place.true, c.if-byte.true)

pub returns-else-byte : goal.returns-else-byte
returns-else-byte c =
    rw (← place (goal.at.returns-else-byte c).After-read_fixed-byte, ← byte (goal.at.returns-else-byte c).After-read_fixed-byte, c.if-place.true, c.if-byte.false)

pub returns-else-place : goal.returns-else-place
returns-else-place c =
    rw (← place (goal.at.returns-else-place c).After-read_fixed-byte, c.if-place.false)
