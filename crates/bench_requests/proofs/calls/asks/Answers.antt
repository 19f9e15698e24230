-- A line has a first word, so what is left of the words are the fields.
use Rattle.lines.specs.WordsLaws.{words-some}
use borrow.Author.Rules.{rules}
use Rattle.bench_requests.proofs.calls.asks.Goals as goal

pub overflow_sub-result : goal.overflow_sub-result
overflow_sub-result c =
    search (
      rules,
      words-some c.args.line.now,
      c.count.ensures.answer,
    )

pub returns-then-same : goal.returns-then-same
returns-then-same c =
    record {
      answer = let named = c.same.ensures.answer in
          rw (← c.word.ensures.answer, ← named, c.if-same.true, c.count.ensures.answer);
    }

pub returns : goal.returns
returns c =
    record {
      answer = let named = c.same.ensures.answer in
          rw (← c.word.ensures.answer, ← named, c.if-same.false);
    }
