-- The thermostat console as a console whose state is the probe.
--     probe_console       to a line it says the text of the reply, and it leads to the probe after it
--     first_probe         the probe of `start 0 0 0 0 0`, on which a run begins
use Rattle.std.specs.Prelude.{false}
use Rattle.sessions.specs.Session.{Console}
use Rattle.thermostat.specs.Power.{probe_powered_up}
use Rattle.thermostat.specs.declared.Thermostat.{Thermostat}
use Rattle.thermostat_session.specs.ProbeLines.{reply_line}
use Rattle.thermostat_session.specs.ProbeConsole.{probe_responded, probe_asked}

abbrev pub probe_console : Console
probe_console = record {
  State = Thermostat;
  says = λ p l. reply_line (probe_responded p (probe_asked l)).reply;
  next = λ p l. (probe_responded p (probe_asked l)).probe;
}

abbrev pub first_probe : Thermostat
first_probe = probe_powered_up record { high = 0; low = 0; mode = false; polarity = false; oneshot = false }
