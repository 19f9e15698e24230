-- By the words that stand first, then by how many there are.
use Rattle.bench_requests.proofs.settings_requests.asks.Goals as goal

pub returns-then-same-2 : goal.returns-then-same-2
returns-then-same-2 c =
    rw (
      ← c.word.ensures.answer,
      ← c.same.ensures.answer,
      c.if-same.true,
      ← c.word-then-same.ensures.answer,
      ← c.same-then-same.ensures.answer,
      c.if-same-2.true,
      c.count.ensures.answer,
    )

pub returns-else-same-2 : goal.returns-else-same-2
returns-else-same-2 c =
    rw (
      ← c.word.ensures.answer,
      ← c.same.ensures.answer,
      c.if-same.true,
      ← c.word-then-same.ensures.answer,
      ← c.same-then-same.ensures.answer,
      c.if-same-2.false,
    )

pub returns-else-same : goal.returns-else-same
returns-else-same c =
    rw (← c.word.ensures.answer, ← c.same.ensures.answer, c.if-same.false)
