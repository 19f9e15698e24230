-- The record of a DS1821 with one part replaced, all else as it was.
--     probe_with_stage p s     where it stands in the protocol
--     with_converting p c     whether a conversion runs
--     with_high p b           the high limit, as a signed byte; with_low p b, the low one
use Rattle.std.specs.Prelude.{ℕ, Bool}
use Rattle.thermostat.specs.declared.Kept.{Kept}
use Rattle.thermostat.specs.declared.ProbeStage.{ProbeStage}
use Rattle.thermostat.specs.declared.Thermostat.{Thermostat}

abbrev pub probe_with_stage : Thermostat → ProbeStage → Thermostat
probe_with_stage p s = record {
  kept = p.kept;
  stage = s;
  temperature = p.temperature;
  flags = p.flags;
  output = p.output;
  converting = p.converting;
  thermostat = p.thermostat;
}

abbrev pub with_converting : Thermostat → Bool → Thermostat
with_converting p c = record {
  kept = p.kept;
  stage = p.stage;
  temperature = p.temperature;
  flags = p.flags;
  output = p.output;
  converting = c;
  thermostat = p.thermostat;
}

abbrev pub with_kept : Thermostat → Kept → Thermostat
with_kept p k = record {
  kept = k;
  stage = p.stage;
  temperature = p.temperature;
  flags = p.flags;
  output = p.output;
  converting = p.converting;
  thermostat = p.thermostat;
}

abbrev pub with_high : Thermostat → ℕ → Thermostat
with_high p b = with_kept p (record {
  high = b;
  low = p.kept.low;
  mode = p.kept.mode;
  polarity = p.kept.polarity;
  oneshot = p.kept.oneshot;
})

abbrev pub with_low : Thermostat → ℕ → Thermostat
with_low p b = with_kept p (record {
  high = p.kept.high;
  low = b;
  mode = p.kept.mode;
  polarity = p.kept.polarity;
  oneshot = p.kept.oneshot;
})
