-- The status register, which the probe and the host both write.
--     status_of p            the byte as it stands. From bit 0: one-shot, polarity, power-up mode, low flag, high flag,
--                           busy writing, which is 0 since writes take no time, a 1, and done, which is 1 while no
--                           conversion runs
--     status_written p b     the probe after the host wrote b: one-shot, polarity and mode are b's, a flag stays where b
--                           has a 1 and is cleared where b has a 0 (house), and the upper three bits of b reach nothing
use Rattle.std.specs.Prelude.{ℕ, Bool, true, false, not, ◌&&◌, List, [], ◌∷◌}
use Rattle.basic_laws.specs.Bits.{bit_at, number_of}
use Rattle.thermostat.specs.declared.Thermostat.{Thermostat}

abbrev pub status_bits : Thermostat → List Bool
status_bits p =
    p.kept.oneshot ∷ p.kept.polarity ∷ p.kept.mode ∷ p.flags.low ∷ p.flags.high ∷ false ∷ true
    ∷ not p.converting ∷ []

unfoldable pub status_of : Thermostat → ℕ
status_of p = number_of (status_bits p)

unfoldable pub status_written : Thermostat → ℕ → Thermostat
status_written p b = record {
  kept = record {
    high = p.kept.high;
    low = p.kept.low;
    mode = bit_at b 2;
    polarity = bit_at b 1;
    oneshot = bit_at b 0;
  };
  stage = p.stage;
  temperature = p.temperature;
  flags = record { high = p.flags.high && bit_at b 4; low = p.flags.low && bit_at b 3 };
  output = p.output;
  converting = p.converting;
  thermostat = p.thermostat;
}
