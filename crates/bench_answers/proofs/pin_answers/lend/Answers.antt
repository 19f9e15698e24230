-- A part is as long as asked where it is within the whole, and 32 places are as good as more.
use Rattle.std.proofs.Common.{◌≡◌, ◌∙◌, ap, subst, arith, length, take, length-take-le, min}
use Rattle.master_rules.specs.Pins.{PinsOutcome, pins_outcome}
use Rattle.bench_answers.specs.Whole.{Says}
use Rattle.bench_answers.specs.PinLines.{of_pins}
use Rattle.bench_answers.specs.PinLinesLaws.{pins-just-enough}
use Rattle.bench_answers.proofs.pin_answers.lend.Goals as goal

pub returns : goal.returns
returns c =
    let a = c.args in
    let count = c.min-lent.ensures in
    let long = c.requires.0 in
    let part : length (take c.min-lent.result a.list.now) ≡ min a.places 32 =
    length-take-le c.min-lent.result a.list.now (omega arith) ∙ count in
    subst (λ (o : PinsOutcome). Says a.out.now (of_pins o) c.ask.new.out c.ask.result)
    (ap (pins_outcome a.bench) part ∙ pins-just-enough a.bench a.places) c.ask.ensures
