-- The two calls by which a host changes the mode, the polarity or one-shot of a DS1821: a read of the status, and a
-- write of the byte read with those bits changed and a 1 for both flags. Each is a reset and, where the probe shows
-- presence, a command and a byte. In thermostat mode it shows none, and both get 4 (house).
--     alone                 the wire with this probe alone on it
--     byte_sent x p          the probe after the eight bits of the byte x
--     byte_shown_by p         the byte that the line shows in eight read slots, first bit lowest; after_reading p, the
--                           probe after them
--     status_read p          the first call
--     changed_status s a     the byte of the second call, from bit 0: one-shot, polarity and mode as asked, 1 and 1 for
--                           the flags, and the upper three bits of the byte s that was read; changed_bits, these bits
--     status_changed p s a   the second call
use Rattle.std.specs.Prelude.{ℕ, Bool, true, List, [], ◌∷◌}
use Rattle.std.specs.Prelude.{if◌then◌else◌}
use Rattle.basic_laws.specs.Bits.{bit_at, number_of}
use Rattle.refusals.specs.Refusals.{accepted, no_presence}
use Rattle.search_laws.specs.Reads.{after_bits, bits_shown, after_reads}
use Rattle.search_laws.specs.Wire.{Bus}
use Rattle.thermostat.specs.Commands.{write_status, read_status}
use Rattle.thermostat.specs.Slot.{probe_slotted, probe_reset}
use Rattle.thermostat.specs.declared.Thermostat.{Thermostat}
use Rattle.thermostat.specs.declared.rules.Asked.{Asked}
use Rattle.thermostat.specs.declared.rules.Changed.{Changed}
use Rattle.thermostat.specs.declared.rules.StatusRead.{StatusRead}

abbrev pub alone : Bus
alone = record {
  Devices = Thermostat;
  line = λ m p. (probe_slotted p m).line;
  after = λ m p. (probe_slotted p m).probe;
  reset = λ p. (probe_reset p).probe;
}

abbrev pub byte_sent : ℕ → Thermostat → Thermostat
byte_sent x p = after_bits alone 8 x p

abbrev pub byte_shown_by : Thermostat → ℕ
byte_shown_by p = number_of (bits_shown alone 8 p)

abbrev pub after_reading : Thermostat → Thermostat
after_reading p = after_reads alone 8 p

unfoldable pub status_read : Thermostat → StatusRead
status_read p =
    let r = probe_reset p in
    let asked = byte_sent read_status r.probe in
    if r.presence then record { refusal = accepted; status = byte_shown_by asked; probe = after_reading asked }
    else record { refusal = no_presence; status = 0; probe = r.probe }

abbrev pub changed_bits : ℕ → Asked → List Bool
changed_bits s a = a.oneshot ∷ a.polarity ∷ a.mode ∷ true ∷ true ∷ bit_at s 5 ∷ bit_at s 6 ∷ bit_at s 7 ∷ []

unfoldable pub changed_status : ℕ → Asked → ℕ
changed_status s a = number_of (changed_bits s a)

unfoldable pub status_changed : Thermostat → ℕ → Asked → Changed
status_changed p s a =
    let r = probe_reset p in
    if r.presence then record {
      refusal = accepted;
      probe = byte_sent (changed_status s a) (byte_sent write_status r.probe);
    }
    else record { refusal = no_presence; probe = r.probe }
