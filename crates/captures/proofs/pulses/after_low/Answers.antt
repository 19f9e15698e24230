-- One return for each kind of low.
use Rattle.captures.proofs.pulses.after_low.Goals as goal

pub returns-in-One : goal.returns-in-One
returns-in-One c =
    rw (← c.pulse_of-pulse.ensures, c.in-One.is) c.take_slot.ensures

pub returns-in-Zero : goal.returns-in-Zero
returns-in-Zero c =
    rw (
      ← c.pulse_of-pulse.ensures,
      c.in-Zero.is,
    ) c.take_slot-in-Zero.ensures

pub returns-in-Reset : goal.returns-in-Reset
returns-in-Reset c =
    rw (← c.pulse_of-pulse.ensures, c.in-Reset.is) c.restart.ensures

pub returns-in-Other : goal.returns-in-Other
returns-in-Other c =
    rw (← c.pulse_of-pulse.ensures, c.in-Other.is) c.refuse.ensures
