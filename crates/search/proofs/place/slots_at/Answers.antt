-- Where every device fits and the reads are not both 1, the law of the three slots at once; elsewhere the slots
-- themselves.
use mathlib.Core.Path.{sym}
use Rattle.search.specs.PlaceLaws.{surveyed-at-once}
use Rattle.search.proofs.place.slots_at.Goals as goal

pub returns-then-both : goal.returns-then-both
returns-then-both c =
    record {
      answer = let a = c.args in
          rw (
            c.settle.ensures.answer,
            c.choose-bit.ensures.answer,
            c.look_over-s.ensures.answer,
            c.count_of-count.ensures.answer,
            c.records_of-devices.ensures.answer,
          )
          (sym (surveyed-at-once a.place a.bench a.plan
          (rw (
            ← c.records_of-devices.ensures.answer,
            ← c.count_of-count.ensures.answer,
            ← c.look_over-s.ensures.answer,
            ← c.both.ensures.answer,
            ← c.both-2.ensures.answer,
          ) c.if-both.true)));
    }
