-- Each stage by itself; of a search, its place and its phase.
use Rattle.device.proofs.stages.starts_at.Goals as goal

pub returns-in-Search : goal.returns-in-Search
returns-in-Search c =
    record {
      answer = simp (
        c.in-Search.is,
        c.both-in-Search.ensures.answer,
        c.both.ensures.answer,
        c.is_first.ensures.answer,
      );
    }
