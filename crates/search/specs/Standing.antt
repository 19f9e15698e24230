-- Where the devices of a bench stand in a search.
--     fits j d               it is quiet, or its next slot is the first of place j, and it does not hold the wire
--     one_at j d, zero_sent_at j d  what it lets the line show in the first and in the second slot
--     surveyed_with j s d     the survey s with d looked at too
use Rattle.std.specs.Prelude.{ℕ, Bool, true, not, ◌&&◌, ◌||◌}
use Rattle.basic_laws.specs.Bits.{bit_at}
use Rattle.device.specs.Record.{holds_wire}
use Rattle.device.specs.Stages.{quiet_at, starts_at}
use Rattle.device.specs.declared.Device.{Device}
use Rattle.search.specs.declared.place.Survey.{Survey}

unfoldable pub fits : ℕ → Device → Bool
fits j d = not (holds_wire d) && (quiet_at d.stage || starts_at j d.stage)

unfoldable pub one_at : ℕ → Device → Bool
one_at j d = quiet_at d.stage || bit_at d.code j

unfoldable pub zero_sent_at : ℕ → Device → Bool
zero_sent_at j d = quiet_at d.stage || not (bit_at d.code j)

abbrev pub survey_start : Survey
survey_start = record { fits = true; ones = true; zeros = true }

unfoldable pub surveyed_with : ℕ → Survey → Device → Survey
surveyed_with j s d = record {
  fits = s.fits && fits j d;
  ones = s.ones && one_at j d;
  zeros = s.zeros && zero_sent_at j d;
}
