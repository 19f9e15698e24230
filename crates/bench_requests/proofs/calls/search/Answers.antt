-- By the tests of both fields.
use mathlib.Core.Path.{ap, ◌∙◌}
use Rattle.lines.specs.Fields.{places_in, bytes_in}
use Rattle.bench_requests.proofs.calls.search.Goals as goal

pub returns-then-bytes : goal.returns-then-bytes
returns-then-bytes c =
    let first = c.places_in-places.ensures.answer
    ∙ ap places_in c.word.ensures.answer in let second =
    c.bytes_in-bytes.ensures.answer ∙ ap bytes_in c.word-2.ensures.answer in
    rw (← first, ← second, c.if-places.true, c.if-bytes.true)

pub returns-else-bytes : goal.returns-else-bytes
returns-else-bytes c =
    let first = c.places_in-places.ensures.answer
    ∙ ap places_in c.word.ensures.answer in let second =
    c.bytes_in-bytes.ensures.answer ∙ ap bytes_in c.word-2.ensures.answer in
    rw (← first, ← second, c.if-places.true, c.if-bytes.false)

pub returns-else-places : goal.returns-else-places
returns-else-places c =
    let first = c.places_in-places.ensures.answer
    ∙ ap places_in c.word.ensures.answer in let second =
    c.bytes_in-bytes.ensures.answer ∙ ap bytes_in c.word-2.ensures.answer in rw (← first, c.if-places.false)
