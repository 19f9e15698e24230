-- Each return is one line of the definition: the tests before it came out the other way, its own came out its way.
-- `simp` rewrites the definition's tests by what the calls promise and by the branches taken. A place is named for the
-- call or the branch that it follows.
use Rattle.scratchpad.specs.Judgement.{judged}
use Rattle.scratchpad.proofs.judge.Goals as goal

pub returns-then-not-crc_right : goal.returns-then-not-crc_right
unfolding judged
returns-then-not-crc_right c =
    record { answer = simp (c.refuse.ensures.answer, ← c.crc_right.ensures.answer, c.if-not-crc_right.true) }

pub returns-then-all_zeros : goal.returns-then-all_zeros
unfolding judged
returns-then-all_zeros c =
    record { answer = simp (c.refuse-then-all_zeros.ensures.answer, ← c.crc_right.ensures.answer, c.if-not-crc_right.false, ← c.all_zeros.ensures.answer, c.if-all_zeros.true) }

pub returns-then-not-kind_right : goal.returns-then-not-kind_right
unfolding judged
returns-then-not-kind_right c =
    record {
      answer = simp (
        c.refuse-then-not-kind_right.ensures.answer,
        ← c.crc_right.ensures.answer,
        c.if-not-crc_right.false,
        ← c.all_zeros.ensures.answer,
        c.if-all_zeros.false,
        ← c.properties_of-row.ensures.answer,
        ← c.kind_right.ensures.answer,
        c.if-not-kind_right.true,
      );
    }

pub returns-then-not-in_range : goal.returns-then-not-in_range
unfolding judged
returns-then-not-in_range c =
    record {
      answer = simp (
        c.refuse-then-not-in_range.ensures.answer,
        ← c.crc_right.ensures.answer,
        c.if-not-crc_right.false,
        ← c.all_zeros.ensures.answer,
        c.if-all_zeros.false,
        ← c.properties_of-row.ensures.answer,
        ← c.kind_right.ensures.answer,
        c.if-not-kind_right.false,
        ← c.reading_in-reading.ensures.answer,
        ← c.in_range.ensures.answer,
        c.if-not-in_range.true,
      );
    }

pub returns-then-not-counts_believed : goal.returns-then-not-counts_believed
unfolding judged
returns-then-not-counts_believed c =
    record {
      answer = simp (
        c.refuse-then-not-counts_believed.ensures.answer,
        ← c.crc_right.ensures.answer,
        c.if-not-crc_right.false,
        ← c.all_zeros.ensures.answer,
        c.if-all_zeros.false,
        ← c.properties_of-row.ensures.answer,
        ← c.kind_right.ensures.answer,
        c.if-not-kind_right.false,
        ← c.reading_in-reading.ensures.answer,
        ← c.in_range.ensures.answer,
        c.if-not-in_range.false,
        ← c.counts_believed.ensures.answer,
        c.if-not-counts_believed.true,
      );
    }

pub returns : goal.returns
unfolding judged
returns c =
    record {
      answer = simp (
        c.fine_in.ensures.answer,
        ← c.crc_right.ensures.answer,
        c.if-not-crc_right.false,
        ← c.all_zeros.ensures.answer,
        c.if-all_zeros.false,
        ← c.properties_of-row.ensures.answer,
        ← c.kind_right.ensures.answer,
        c.if-not-kind_right.false,
        ← c.reading_in-reading.ensures.answer,
        ← c.in_range.ensures.answer,
        c.if-not-in_range.false,
        ← c.counts_believed.ensures.answer,
        c.if-not-counts_believed.false,
      );
    }
