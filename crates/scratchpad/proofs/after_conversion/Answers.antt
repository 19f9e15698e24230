-- The stored reading goes into the two bytes of the register, the counts behind.
use Rattle.scratchpad.specs.Stored.{scratchpad_after}
use Rattle.scratchpad.proofs.after_conversion.Goals as goal

pub returns : goal.returns
unfolding scratchpad_after
returns c =
    record {
      answer = simp (
        c.with_counts.ensures.answer,
        c.with_register.ensures.answer,
        c.stored_reading.ensures.answer,
      );
    }
