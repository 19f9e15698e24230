-- A probe outside thermostat mode, by its parts.
use Rattle.std.specs.Prelude.{ℕ, Bool, false}
use Rattle.thermostat.specs.declared.Flags.{Flags}
use Rattle.thermostat.specs.declared.Kept.{Kept}
use Rattle.thermostat.specs.declared.ProbeStage.{ProbeStage}
use Rattle.thermostat.specs.declared.Thermostat.{Thermostat}

abbrev pub listening : Kept → ProbeStage → ℕ → Flags → Bool → Bool → Thermostat
listening k s t f o c = record {
  kept = k;
  stage = s;
  temperature = t;
  flags = f;
  output = o;
  converting = c;
  thermostat = false;
}
