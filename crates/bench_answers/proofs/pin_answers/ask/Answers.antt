-- What is said is the front of the list and of the pins answered.
use mathlib.Core.Path.{sym}
use lib.Seq.{length-take-le}
use Rattle.bench_answers.specs.PinLinesLaws.{codes-within, pins-within, asked-few, asked-short, says-asked}
use borrow.Author.Rules.{rules}
use Rattle.bench_answers.proofs.pin_answers.ask.Goals as goal

pub slice_bounds-say-end : goal.slice_bounds-say-end
slice_bounds-say-end c =
    let a = c.args in
    codes-within a.bench a.list.now c.read_pins-answer.new.list c.read_pins-answer.result
    c.read_pins-answer.ensures.answer c.read_pins-answer.ensures.listed

pub slice_bounds-say-end-2 : goal.slice_bounds-say-end-2
slice_bounds-say-end-2 c =
    let a = c.args in
    sym (length-take-le c.read_pins-answer.result.codes c.read_pins-answer.new.list
    (codes-within a.bench a.list.now c.read_pins-answer.new.list c.read_pins-answer.result
    c.read_pins-answer.ensures.answer c.read_pins-answer.ensures.listed))

pub slice_bounds-say-end-3 : goal.slice_bounds-say-end-3
slice_bounds-say-end-3 c =
    let a = c.args in
    sym (length-take-le c.read_pins-answer.result.codes c.read_pins-answer.result.pins
    (pins-within a.bench a.list.now c.read_pins-answer.new.list c.read_pins-answer.result
    c.read_pins-answer.ensures.answer c.read_pins-answer.ensures.listed))

pub say-requires : goal.say-requires
say-requires c =
    let a = c.args in
    let few = asked-few a.bench a.list.now c.read_pins-answer.new.list c.read_pins-answer.result
    c.read_pins-answer.ensures.answer c.read_pins-answer.ensures.listed in (
      few.0,
      few.1,
      asked-short a.bench a.list.now c.read_pins-answer.new.list c.read_pins-answer.result
          c.read_pins-answer.ensures.answer c.read_pins-answer.ensures.listed (search rules),
      c.requires,
    )

pub returns : goal.returns
returns c =
    let a = c.args in
    let say = c.say in
    says-asked a.bench a.list.now c.read_pins-answer.new.list c.read_pins-answer.result
    c.read_pins-answer.ensures.answer c.read_pins-answer.ensures.listed a.out.now say.new.out
    say.result say.ensures
