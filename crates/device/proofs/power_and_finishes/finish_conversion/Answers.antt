-- The reading, the scratchpad and the flag are those of the definition, each from the call that makes it, and each part
-- is replaced by its own call.
use Rattle.device.specs.Finish.{conversion_done}
use Rattle.device.proofs.power_and_finishes.finish_conversion.Goals as goal

pub returns : goal.returns
unfolding conversion_done
returns c =
    record {
      answer = simp (
        c.with_page.ensures.answer,
        c.with_alarm-judged.ensures.answer,
        c.verdict.ensures.answer,
        c.with_scratchpad-stored.ensures.answer,
        c.after_conversion.ensures.answer,
        c.with_activity-idle.ensures.answer,
        c.stored_reading-reading.ensures.answer,
        c.row_of-row.ensures.answer,
      );
    }
