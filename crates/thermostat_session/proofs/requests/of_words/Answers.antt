-- Row by row: where a row asks, its own request is given; behind the last, none has asked.
use mathlib.Core.Path.{sym, ◌∙◌}
use Rattle.thermostat_session.specs.ProbeRequestsLaws.{row-start, row-reset, row-slot, row-finish, row-cycle}
use Rattle.thermostat_session.specs.ProbeRequestsLaws.{row-status, row-change, row-show, no_row}
use Rattle.thermostat_session.proofs.requests.of_words.Goals as goal

pub returns-then-asks : goal.returns-then-asks
returns-then-asks c =
    c.start.ensures ∙ row-start _ (sym c.asks.ensures.answer ∙ c.if-asks.true)

pub returns-then-asks-2 : goal.returns-then-asks-2
returns-then-asks-2 c =
    row-reset _ (sym c.asks-2.ensures.answer ∙ c.if-asks-2.true)

pub returns-then-asks-3 : goal.returns-then-asks-3
returns-then-asks-3 c =
    c.slot.ensures ∙ row-slot _ (sym c.asks-3.ensures.answer ∙ c.if-asks-3.true)

pub returns-then-asks-4 : goal.returns-then-asks-4
returns-then-asks-4 c =
    c.finish.ensures ∙ row-finish _ (sym c.asks-4.ensures.answer ∙ c.if-asks-4.true)

pub returns-then-asks-5 : goal.returns-then-asks-5
returns-then-asks-5 c =
    row-cycle _ (sym c.asks-5.ensures.answer ∙ c.if-asks-5.true)

pub returns-then-asks-6 : goal.returns-then-asks-6
returns-then-asks-6 c =
    row-status _ (sym c.asks-6.ensures.answer ∙ c.if-asks-6.true)

pub returns-then-asks-7 : goal.returns-then-asks-7
returns-then-asks-7 c =
    c.change.ensures ∙ row-change _ (sym c.asks-7.ensures.answer ∙ c.if-asks-7.true)

pub returns-then-asks-8 : goal.returns-then-asks-8
returns-then-asks-8 c =
    row-show _ (sym c.asks-8.ensures.answer ∙ c.if-asks-8.true)

pub returns : goal.returns
returns c =
    no_row _ (sym c.asks.ensures.answer ∙ c.if-asks.false)
    (sym c.asks-2.ensures.answer ∙ c.if-asks-2.false)
    (sym c.asks-3.ensures.answer ∙ c.if-asks-3.false)
    (sym c.asks-4.ensures.answer ∙ c.if-asks-4.false)
    (sym c.asks-5.ensures.answer ∙ c.if-asks-5.false)
    (sym c.asks-6.ensures.answer ∙ c.if-asks-6.false)
    (sym c.asks-7.ensures.answer ∙ c.if-asks-7.false)
    (sym c.asks-8.ensures.answer ∙ c.if-asks-8.false)
