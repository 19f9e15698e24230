-- By the test of the field.
use mathlib.Core.Path.{ap, ◌∙◌}
use Rattle.lines.specs.Fields.{places_in}
use Rattle.bench_requests.proofs.calls.pins.Goals as goal

pub returns-then-places : goal.returns-then-places
returns-then-places c =
    let read = c.places_in-places.ensures.answer ∙ ap places_in c.word.ensures.answer in
    rw (← read, c.if-places.true)

pub returns : goal.returns
returns c =
    let read = c.places_in-places.ensures.answer ∙ ap places_in c.word.ensures.answer in
    rw (← read, c.if-places.false)
