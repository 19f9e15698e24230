-- By whether the device is quiet.
use mathlib.Core.Bool.{not, and-true}
use Rattle.search.specs.Standing.{fits, one_at, zero_sent_at, surveyed_with}
use Rattle.search.proofs.place.survey_with.Goals as goal

pub returns-then-is_quiet : goal.returns-then-is_quiet
unfolding surveyed_with fits one_at zero_sent_at
returns-then-is_quiet c =
    record {
      answer = let s = c.args.s in
          let held = c.holds_wire-held in
          simp (
            c.both.ensures.answer,
            ← c.is_quiet.ensures.answer,
            c.if-is_quiet.true,
            ← held.ensures.answer,
            and-true (not held.result),
            and-true s.ones,
            and-true s.zeros,
          );
    }

pub returns : goal.returns
unfolding surveyed_with fits one_at zero_sent_at
returns c =
    record {
      answer = simp (
        c.both-5.ensures.answer,
        c.both-4.ensures.answer,
        c.both-3.ensures.answer,
        c.both-2.ensures.answer,
        c.starts_at.ensures.answer,
        c.bit_of-own.ensures.answer,
        ← c.is_quiet.ensures.answer,
        c.if-is_quiet.false,
        c.holds_wire-held.ensures.answer,
      );
    }
