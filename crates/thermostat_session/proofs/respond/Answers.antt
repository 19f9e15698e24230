-- Request by request: what is said is what the call came to, and the call came to what its promise says.
use Rattle.thermostat_session.specs.ProbeConsole.{probe_responded}
use Rattle.thermostat_session.proofs.respond.Goals as goal

pub returns-in-Bad : goal.returns-in-Bad
unfolding probe_responded
returns-in-Bad c =
    record { answer = rw (c.in-Bad.is, c.say.ensures) }

pub returns-in-Start : goal.returns-in-Start
unfolding probe_responded
returns-in-Start c =
    record { answer = rw (c.in-Start.is, c.say-in-Start.ensures, c.start.ensures.answer) }

pub returns-in-Reset : goal.returns-in-Reset
unfolding probe_responded
returns-in-Reset c =
    record { answer = rw (c.in-Reset.is, c.say-in-Reset.ensures, c.reset-done.ensures.answer) }

pub returns-in-Slot : goal.returns-in-Slot
unfolding probe_responded
returns-in-Slot c =
    record {
      answer = rw (
        c.in-Slot.is,
        c.say-in-Slot.ensures,
        c.slot-done.ensures.answer,
      );
    }

pub returns-in-Finish : goal.returns-in-Finish
unfolding probe_responded
returns-in-Finish c =
    record {
      answer = rw (
        c.in-Finish.is,
        c.say-in-Finish.ensures,
        c.finish-done.ensures.answer,
      );
    }

pub returns-in-Cycle : goal.returns-in-Cycle
unfolding probe_responded
returns-in-Cycle c =
    record { answer = rw (c.in-Cycle.is, c.say-in-Cycle.ensures, c.power_cycle.ensures.answer) }

pub returns-in-Status : goal.returns-in-Status
unfolding probe_responded
returns-in-Status c =
    record { answer = rw (c.in-Status.is, c.read.ensures) }

pub returns-in-Change : goal.returns-in-Change
unfolding probe_responded
returns-in-Change c =
    record {
      answer = rw (
        c.in-Change.is,
        c.say-in-Change.ensures,
        c.change-done.ensures.answer,
      );
    }

pub returns-in-Show : goal.returns-in-Show
unfolding probe_responded
returns-in-Show c =
    record { answer = rw (c.in-Show.is, c.say-in-Show.ensures) }
