-- By the definition's own tests.
use borrow.Author.Tests.{eq-eqb, ne_eqb}
use Rattle.packed_session.specs.TableRequests.{of_table}
use Rattle.packed_session.proofs.table_requests.of_words.Goals as goal

pub returns-then-same : goal.returns-then-same
unfolding of_table
returns-then-same c =
    rw (
      ← c.count-words.ensures.answer,
      eq-eqb _ _ c.if-words-eq3.true,
      ← c.word.ensures.answer,
      ← c.same.ensures.answer,
      c.if-same.true,
    ) c.poke.ensures

pub returns-then-words-eq3 : goal.returns-then-words-eq3
unfolding of_table
returns-then-words-eq3 c =
    rw (← c.count-words.ensures.answer, eq-eqb _ _ c.if-words-eq3.true, ← c.word.ensures.answer, ← c.same.ensures.answer, c.if-same.false)

pub returns-then-same-2 : goal.returns-then-same-2
unfolding of_table
returns-then-same-2 c =
    rw (
      ← c.count-words.ensures.answer,
      ne_eqb _ _ c.if-words-eq3.false,
      eq-eqb _ _ c.if-words-eq1.true,
      ← c.word-then-words-eq1.ensures.answer,
      ← c.same-then-words-eq1.ensures.answer,
      c.if-same-2.true,
    )

pub returns-else-same-2 : goal.returns-else-same-2
unfolding of_table
returns-else-same-2 c =
    rw (
      ← c.count-words.ensures.answer,
      ne_eqb _ _ c.if-words-eq3.false,
      eq-eqb _ _ c.if-words-eq1.true,
      ← c.word-then-words-eq1.ensures.answer,
      ← c.same-then-words-eq1.ensures.answer,
      c.if-same-2.false,
    )

pub returns-else-words-eq1 : goal.returns-else-words-eq1
unfolding of_table
returns-else-words-eq1 c =
    rw (← c.count-words.ensures.answer, ne_eqb _ _ c.if-words-eq3.false, ne_eqb _ _ c.if-words-eq1.false)
