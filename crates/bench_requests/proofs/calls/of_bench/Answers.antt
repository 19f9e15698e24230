-- Row by row: where a row asks, its own request is given; behind the last, none has asked.
use mathlib.Core.Path.{sym, ◌∙◌}
use Rattle.bench_requests.specs.RequestsLaws.{row-add, row-pinned, row-reset, row-slot, row-converted, row_copied}
use Rattle.bench_requests.specs.RequestsLaws.{row-cycle, row-show, row-why, no-bench-row}
use Rattle.bench_requests.proofs.calls.of_bench.Goals as goal

pub returns-then-asks : goal.returns-then-asks
returns-then-asks c =
    c.add.ensures ∙ row-add _ (sym c.asks.ensures.answer ∙ c.if-asks.true)

pub returns-then-asks-2 : goal.returns-then-asks-2
returns-then-asks-2 c =
    c.add_pinned.ensures ∙ row-pinned _ (sym c.asks-2.ensures.answer ∙ c.if-asks-2.true)

pub returns-then-asks-3 : goal.returns-then-asks-3
returns-then-asks-3 c =
    row-reset _ (sym c.asks-3.ensures.answer ∙ c.if-asks-3.true)

pub returns-then-asks-4 : goal.returns-then-asks-4
returns-then-asks-4 c =
    c.slot.ensures ∙ row-slot _ (sym c.asks-4.ensures.answer ∙ c.if-asks-4.true)

pub returns-then-asks-5 : goal.returns-then-asks-5
returns-then-asks-5 c =
    c.converted.ensures ∙ row-converted _ (sym c.asks-5.ensures.answer ∙ c.if-asks-5.true)

pub returns-then-asks-6 : goal.returns-then-asks-6
returns-then-asks-6 c =
    c.copied.ensures ∙ row_copied _ (sym c.asks-6.ensures.answer ∙ c.if-asks-6.true)

pub returns-then-asks-7 : goal.returns-then-asks-7
returns-then-asks-7 c =
    c.cycle.ensures ∙ row-cycle _ (sym c.asks-7.ensures.answer ∙ c.if-asks-7.true)

pub returns-then-asks-8 : goal.returns-then-asks-8
returns-then-asks-8 c =
    c.show.ensures ∙ row-show _ (sym c.asks-8.ensures.answer ∙ c.if-asks-8.true)

pub returns-then-asks-9 : goal.returns-then-asks-9
returns-then-asks-9 c =
    c.why.ensures ∙ row-why _ (sym c.asks-9.ensures.answer ∙ c.if-asks-9.true)

pub returns : goal.returns
returns c =
    c.of_master.ensures ∙ no-bench-row _ (sym c.asks.ensures.answer
    ∙ c.if-asks.false) (sym c.asks-2.ensures.answer ∙ c.if-asks-2.false) (sym c.asks-3.ensures.answer
    ∙ c.if-asks-3.false) (sym c.asks-4.ensures.answer
    ∙ c.if-asks-4.false) (sym c.asks-5.ensures.answer
    ∙ c.if-asks-5.false) (sym c.asks-6.ensures.answer
    ∙ c.if-asks-6.false) (sym c.asks-7.ensures.answer
    ∙ c.if-asks-7.false) (sym c.asks-8.ensures.answer
    ∙ c.if-asks-8.false) (sym c.asks-9.ensures.answer ∙ c.if-asks-9.false)
