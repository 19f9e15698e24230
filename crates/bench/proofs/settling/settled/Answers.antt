-- By whether the device is quiet.
use Rattle.bench.specs.Settling.{settled_of}
use Rattle.bench.proofs.settling.settled.Goals as goal

pub returns-then-is_quiet : goal.returns-then-is_quiet
unfolding settled_of
returns-then-is_quiet c =
    record { answer = simp (← c.is_quiet.ensures.answer, c.if-is_quiet.true) }

pub returns : goal.returns
unfolding settled_of
returns c =
    record {
      answer = simp (
        ← c.is_quiet.ensures.answer,
        c.if-is_quiet.false,
        c.with_stage.ensures.answer,
        c.after_search.ensures.answer,
      );
    }
