-- The pins are read first, and they are a byte; then the other fields.
use mathlib.Core.Path.{ap, ◌∙◌}
use native.Mathlib.Omega.{arith}
use Rattle.text.specs.NumbersLaws.{decimal-at-most}
use Rattle.lines.specs.Fields.{pins_in}
use Rattle.lines.specs.Words.{words_of, word_of}
use Rattle.bench_requests.proofs.calls.add_pinned.Goals as goal

pub overflow_cast-pins : goal.overflow_cast-pins
overflow_cast-pins c =
    let read = c.pins_in-pins.ensures.answer ∙ ap pins_in c.word.ensures.answer in
    let most = rw (← read) at (decimal-at-most 3 255
    (word_of (words_of c.args.line.now) 6)) in
    record { fits = omega (arith, most) }

pub returns-then-pins : goal.returns-then-pins
returns-then-pins c =
    let read = c.pins_in-pins.ensures.answer ∙ ap pins_in c.word.ensures.answer in
    rw (← read, c.if-pins.true) c.add.ensures

pub returns : goal.returns
returns c =
    let read = c.pins_in-pins.ensures.answer ∙ ap pins_in c.word.ensures.answer in
    rw (← read, c.if-pins.false)
