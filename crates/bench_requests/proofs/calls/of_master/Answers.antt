-- Row by row: where a row asks, its own request is given; behind the last, none has asked.
use mathlib.Core.Path.{sym, ◌∙◌}
use Rattle.bench_requests.specs.RequestsLaws.{row-search-alone, row-alarm-alone, row-search, row-alarm, row_read}
use Rattle.bench_requests.specs.RequestsLaws.{row_write, row-pins-alone, row-pins, no-master-row}
use Rattle.bench_requests.proofs.calls.of_master.Goals as goal

pub returns-then-asks : goal.returns-then-asks
returns-then-asks c =
    row-search-alone _ (sym c.asks.ensures.answer ∙ c.if-asks.true)

pub returns-then-asks-2 : goal.returns-then-asks-2
returns-then-asks-2 c =
    row-alarm-alone _ (sym c.asks-2.ensures.answer ∙ c.if-asks-2.true)

pub returns-then-asks-3 : goal.returns-then-asks-3
returns-then-asks-3 c =
    c.search.ensures ∙ row-search _ (sym c.asks-3.ensures.answer ∙ c.if-asks-3.true)

pub returns-then-asks-4 : goal.returns-then-asks-4
returns-then-asks-4 c =
    c.alarm.ensures ∙ row-alarm _ (sym c.asks-4.ensures.answer ∙ c.if-asks-4.true)

pub returns-then-asks-5 : goal.returns-then-asks-5
returns-then-asks-5 c =
    c.read.ensures ∙ row_read _ (sym c.asks-5.ensures.answer ∙ c.if-asks-5.true)

pub returns-then-asks-6 : goal.returns-then-asks-6
returns-then-asks-6 c =
    c.write.ensures ∙ row_write _ (sym c.asks-6.ensures.answer ∙ c.if-asks-6.true)

pub returns-then-asks-7 : goal.returns-then-asks-7
returns-then-asks-7 c =
    row-pins-alone _ (sym c.asks-7.ensures.answer ∙ c.if-asks-7.true)

pub returns-then-asks-8 : goal.returns-then-asks-8
returns-then-asks-8 c =
    c.pins.ensures ∙ row-pins _ (sym c.asks-8.ensures.answer ∙ c.if-asks-8.true)

pub returns : goal.returns
returns c =
    no-master-row _ (sym c.asks.ensures.answer ∙ c.if-asks.false) (sym c.asks-2.ensures.answer
    ∙ c.if-asks-2.false) (sym c.asks-3.ensures.answer ∙ c.if-asks-3.false) (sym c.asks-4.ensures.answer
    ∙ c.if-asks-4.false) (sym c.asks-5.ensures.answer
    ∙ c.if-asks-5.false) (sym c.asks-6.ensures.answer ∙ c.if-asks-6.false)
    (sym c.asks-7.ensures.answer ∙ c.if-asks-7.false) (sym c.asks-8.ensures.answer ∙ c.if-asks-8.false)
