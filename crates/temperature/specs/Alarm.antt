-- Limits and the alarm rule: the flag is set if the whole degree of a reading is at or above the high limit, or at or
-- below the low one.
--     limit_of byte                a limit byte as a signed number of degrees
--     limit_byte_of w               the byte of a limit, where w is a signed byte; otherwise refusal 11, with a zero byte
--     alarms_at t high low         whether t is at or past a limit, equality included; low above high is allowed
--     verdict reading high low    whether a reading is at or past a limit, the two limits given as their bytes
use Rattle.std.specs.Prelude.{ℕ, Bool, ◌||◌}
use Rattle.std.specs.Int.Signed.{le_z}
use Rattle.std.specs.Prelude.{if◌then◌else◌}
use Rattle.refusals.specs.Refusals.{accepted, out_of_range}
use Rattle.basic_laws.specs.Complement.{signed8, bits8}
use Rattle.temperature.specs.declared.LimitByte.{LimitByte}
use Rattle.temperature.specs.declared.Reading.{Reading}
use Rattle.temperature.specs.declared.WholeDegrees.{WholeDegrees}
use Rattle.temperature.specs.Range.{is_limit}
use Rattle.temperature.specs.Units.{whole_of}

abbrev pub limit_of : ℕ → WholeDegrees
limit_of byte = record { 0 = signed8 byte }

abbrev pub limit_byte_of : WholeDegrees → LimitByte
limit_byte_of w =
    if is_limit w
    then record { refusal = accepted; byte = bits8 w.0 }
    else record { refusal = out_of_range; byte = 0 }

abbrev pub alarms_at : WholeDegrees → WholeDegrees → WholeDegrees → Bool
alarms_at t high low = le_z high.0 t.0 || le_z t.0 low.0

abbrev pub verdict : Reading → ℕ → ℕ → Bool
verdict reading high low = alarms_at (whole_of reading) (limit_of high) (limit_of low)
