-- Power-up, which the start is too: it alone takes up the mode (house).
--     probe_powered_up k     the probe as power finds it: limits, mode, polarity and one-shot as they were kept, flags
--                          and temperature 0, output inactive, quiet; in thermostat
--                     mode a conversion runs from there on, else none
use Rattle.std.specs.Prelude.{false}
use Rattle.thermostat.specs.declared.Kept.{Kept}
use Rattle.thermostat.specs.declared.ProbeStage.TheVariants.{Quiet}
use Rattle.thermostat.specs.declared.Thermostat.{Thermostat}

unfoldable pub probe_powered_up : Kept → Thermostat
probe_powered_up k = record {
  kept = k;
  stage = Quiet;
  temperature = 0;
  flags = record { high = false; low = false };
  output = false;
  converting = k.mode;
  thermostat = k.mode;
}
