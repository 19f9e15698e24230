-- By the tests of the fields; two digits are a byte.
use mathlib.Core.Path.{ap, ◌∙◌}
use Rattle.lines.specs.Fields.{byte_in}
use Rattle.lines.specs.FieldsLaws.{byte-below}
use Rattle.thermostat_session.proofs.requests.change.Goals as goal

pub overflow_cast-result : goal.overflow_cast-result
overflow_cast-result c =
    record { fits = rw c.read_fixed-status.ensures.answer (byte-below c.word.result.now) }

pub returns-then-both : goal.returns-then-both
returns-then-both c =
    let status-is = c.read_fixed-status.ensures.answer ∙ ap byte_in c.word.ensures.answer in
    rw (
      ← status-is,
      ← c.word-4.ensures.answer,
      ← c.word-3.ensures.answer,
      ← c.word-2.ensures.answer,
      ← c.asked_in-a.ensures,
      ← c.both.ensures.answer,
      c.if-both.true,
    )

pub returns : goal.returns
returns c =
    let status-is = c.read_fixed-status.ensures.answer ∙ ap byte_in c.word.ensures.answer in
    rw (
      ← status-is,
      ← c.word-4.ensures.answer,
      ← c.word-3.ensures.answer,
      ← c.word-2.ensures.answer,
      ← c.asked_in-a.ensures,
      ← c.both.ensures.answer,
      c.if-both.false,
    )
