-- The end of a conversion: the sensor gives whole degrees, and the probe compares them with its limits.
--     above t b             whether t degrees are above the limit byte b; below t b, whether they are below it; reaches
--                           t b, at it or above it
--     output_after p t       the thermostat output: active at or above the high limit; if not that, inactive below the
--                           low one; else as it was
--     measured p t          the probe after a reading: a flag that stands stays, a temperature above the high limit
--                           sets the high flag, one below the low limit the low flag; the next conversion runs at once
--                           in thermostat mode and where one-shot is clear, as it stands then
--     finished p t          13 while no conversion runs, then 11 outside -55 to +125 degrees; else the probe has
--                           measured t. A refusal leaves it as it was
use Rattle.std.specs.Prelude.{ℕ, Bool, true, false, not, ◌||◌}
use Rattle.std.specs.Int.Signed.{le_z, lt_z}
use Rattle.std.specs.Prelude.{if◌then◌else◌}
use Rattle.refusals.specs.Refusals.{accepted, out_of_range, mismatch}
use Rattle.temperature.specs.Alarm.{limit_of, limit_byte_of}
use Rattle.temperature.specs.Range.{whole_in_range}
use Rattle.temperature.specs.declared.WholeDegrees.{WholeDegrees}
use Rattle.thermostat.specs.declared.Finished.{Finished}
use Rattle.thermostat.specs.declared.Thermostat.{Thermostat}

abbrev pub above : WholeDegrees → ℕ → Bool
above t b = lt_z (limit_of b).0 t.0

abbrev pub below : WholeDegrees → ℕ → Bool
below t b = lt_z t.0 (limit_of b).0

abbrev pub reaches : WholeDegrees → ℕ → Bool
reaches t b = le_z (limit_of b).0 t.0

abbrev pub output_after : Thermostat → WholeDegrees → Bool
output_after p t = if reaches t p.kept.high then true else if below t p.kept.low then false else p.output

unfoldable pub measured : Thermostat → WholeDegrees → Thermostat
measured p t = record {
  kept = p.kept;
  stage = p.stage;
  temperature = (limit_byte_of t).byte;
  flags = record { high = p.flags.high || above t p.kept.high; low = p.flags.low || below t p.kept.low };
  output = output_after p t;
  converting = p.thermostat || not p.kept.oneshot;
  thermostat = p.thermostat;
}

unfoldable pub finished : Thermostat → WholeDegrees → Finished
finished p t =
    if not p.converting then record { refusal = mismatch; probe = p }
    else if not (whole_in_range t) then record { refusal = out_of_range; probe = p }
    else record { refusal = accepted; probe = measured p t }
