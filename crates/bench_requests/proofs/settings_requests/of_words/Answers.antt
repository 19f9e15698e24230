-- Row by row: where a row asks, none before it did; behind the last, none has asked.
use mathlib.Core.Path.{sym, ◌∙◌}
use Rattle.bench_requests.specs.StoreRequests.{of_store}
use Rattle.bench_requests.proofs.settings_requests.of_words.Goals as goal

pub returns-then-asks : goal.returns-then-asks
unfolding of_store
returns-then-asks c =
    rw (sym c.asks.ensures ∙ c.if-asks.true) c.add.ensures

pub returns-then-asks-2 : goal.returns-then-asks-2
unfolding of_store
returns-then-asks-2 c =
    rw (
      sym c.asks.ensures ∙ c.if-asks.false,
      sym c.asks-2.ensures ∙ c.if-asks-2.true,
    ) c.remove.ensures

pub returns-then-asks-3 : goal.returns-then-asks-3
unfolding of_store
returns-then-asks-3 c =
    rw (
      sym c.asks.ensures ∙ c.if-asks.false,
      sym c.asks-2.ensures ∙ c.if-asks-2.false,
      sym c.asks-3.ensures ∙ c.if-asks-3.true,
    ) c.read.ensures

pub returns-then-asks-4 : goal.returns-then-asks-4
unfolding of_store
returns-then-asks-4 c =
    rw (
      sym c.asks.ensures ∙ c.if-asks.false,
      sym c.asks-2.ensures ∙ c.if-asks-2.false,
      sym c.asks-3.ensures ∙ c.if-asks-3.false,
      sym c.asks-4.ensures ∙ c.if-asks-4.true,
    ) c.change.ensures

pub returns-then-asks-5 : goal.returns-then-asks-5
unfolding of_store
returns-then-asks-5 c =
    rw (
      sym c.asks.ensures ∙ c.if-asks.false,
      sym c.asks-2.ensures ∙ c.if-asks-2.false,
      sym c.asks-3.ensures ∙ c.if-asks-3.false,
      sym c.asks-4.ensures ∙ c.if-asks-4.false,
      sym c.asks-5.ensures ∙ c.if-asks-5.true,
    ) c.write.ensures

pub returns : goal.returns
unfolding of_store
returns c =
    rw (
      sym c.asks.ensures ∙ c.if-asks.false,
      sym c.asks-2.ensures ∙ c.if-asks-2.false,
      sym c.asks-3.ensures ∙ c.if-asks-3.false,
      sym c.asks-4.ensures ∙ c.if-asks-4.false,
      sym c.asks-5.ensures ∙ c.if-asks-5.false,
    )
