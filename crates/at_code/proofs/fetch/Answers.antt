-- The reply is judged, and the two outcomes are the two cases of the definition.
use borrow.Author.Tests.{eq-eqb, ne_eqb}
use Rattle.at_code.specs.Laws.{fetched-by}
use Rattle.at_code.proofs.fetch.Goals as goal

pub returns-then-judged-eq-ACCEPTED : goal.returns-then-judged-eq-ACCEPTED
returns-then-judged-eq-ACCEPTED c =
    record {
      answer = simp (
        fetched-by,
        ← c.address-asked.ensures.answer,
        ← c.read_reply-reply.ensures.answer,
        ← c.family_of.ensures.answer,
        ← c.judge-judged.ensures.answer,
        eq-eqb _ _ c.if-judged-eq-ACCEPTED.true,
      );
    }

pub returns : goal.returns
returns c =
    record {
      answer = simp (
        fetched-by,
        ← c.address-asked.ensures.answer,
        ← c.read_reply-reply.ensures.answer,
        ← c.family_of.ensures.answer,
        ← c.judge-judged.ensures.answer,
        ne_eqb _ _ c.if-judged-eq-ACCEPTED.false,
        c.refuse.ensures.answer,
      );
    }
