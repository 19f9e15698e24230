-- By the tests of the three fields.
use mathlib.Core.Path.{ap, ◌∙◌}
use Rattle.thermostat_session.specs.ProbeRequests.{limit_in}
use Rattle.thermostat_session.proofs.requests.start.Goals as goal

pub returns-then-both : goal.returns-then-both
returns-then-both c =
    let high_is = c.limit_in-high.ensures ∙ ap limit_in c.word.ensures.answer in
    let low-is = c.limit_in-low.ensures ∙ ap limit_in c.word-2.ensures.answer in
    rw (
      ← high_is,
      ← low-is,
      ← c.word-5.ensures.answer,
      ← c.word-4.ensures.answer,
      ← c.word-3.ensures.answer,
      ← c.asked_in-a.ensures,
      ← c.both.ensures.answer,
      ← c.both-2.ensures.answer,
      c.if-both.true,
    )

pub returns : goal.returns
returns c =
    let high_is = c.limit_in-high.ensures ∙ ap limit_in c.word.ensures.answer in
    let low-is = c.limit_in-low.ensures ∙ ap limit_in c.word-2.ensures.answer in
    rw (
      ← high_is,
      ← low-is,
      ← c.word-5.ensures.answer,
      ← c.word-4.ensures.answer,
      ← c.word-3.ensures.answer,
      ← c.asked_in-a.ensures,
      ← c.both.ensures.answer,
      ← c.both-2.ensures.answer,
      c.if-both.false,
    )
