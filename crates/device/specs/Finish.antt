-- The end of a conversion and of a copy (the scope, "Temperatures" and "One slot").
--     conversion_done d count     the device after its conversion: reading stored, flag and page set by the limits of
--                                that moment, idle
--     copy_done d s               the device after its copy of the settings s: they are in EEPROM, and it is idle
--     conversion_ended d count    13 unless it is converting, 11 for a count out of range; else its conversion is done
--     copy_ended d                13 unless it is copying; else its copy is done
-- A refusal leaves the device as it was.
use Rattle.std.specs.Prelude.{ℕ, true, get_or}
use Rattle.std.specs.Prelude.{if◌then◌else◌}
use Rattle.refusals.specs.Refusals.{accepted, out_of_range, mismatch}
use Rattle.family.specs.Layout.{high_limit_place, low_limit_place}
use Rattle.temperature.specs.Alarm.{verdict}
use Rattle.temperature.specs.Range.{in_range}
use Rattle.temperature.specs.declared.Reading.TheVariants.{InSixteenths}
use Rattle.temperature.specs.declared.Sixteenths.{Sixteenths}
use Rattle.scratchpad.specs.Stored.{stored_reading, scratchpad_after}
use Rattle.device.specs.declared.Activity.{Activity}
use Rattle.device.specs.declared.Activity.TheVariants.{Idle, Converting, Copying}
use Rattle.device.specs.declared.Device.{Device}
use Rattle.device.specs.declared.Ended.{Ended}
use Rattle.device.specs.declared.Settings.{Settings}
use Rattle.device.specs.Record.{with_activity, with_scratchpad, with_eeprom, with_alarm, with_page, row_of}

unfoldable pub conversion_done : Device → Sixteenths → Device
conversion_done d count =
    let reading = stored_reading (row_of d.code d.pins) count d.scratchpad in
    let high = get_or d.scratchpad high_limit_place 0 in
    let low = get_or d.scratchpad low_limit_place 0 in
    let idle = with_activity d Idle in
    let stored = with_scratchpad idle (scratchpad_after (row_of d.code d.pins) count d.scratchpad) in
    let judged = with_alarm stored (verdict reading high low) in
    with_page judged (record { taken = true; reading = reading; high = high; low = low })

unfoldable pub copy_done : Device → Settings → Device
copy_done d s = with_eeprom (with_activity d Idle) s

abbrev pub ended : Device → Ended
ended d = record { refusal = accepted; device = d }

abbrev pub not_ended : ℕ → Device → Ended
not_ended n d = record { refusal = n; device = d }

abbrev pub conversion_ended_in : Device → Sixteenths → Activity → Ended
conversion_ended_in d count Idle = not_ended mismatch d
conversion_ended_in d count Converting = if in_range (InSixteenths count) then ended (conversion_done d count)
    else not_ended out_of_range d
conversion_ended_in d count (Copying s) = not_ended mismatch d

unfoldable pub conversion_ended : Device → Sixteenths → Ended
conversion_ended d count = conversion_ended_in d count d.activity

abbrev pub copy_ended_in : Device → Activity → Ended
copy_ended_in d Idle = not_ended mismatch d
copy_ended_in d Converting = not_ended mismatch d
copy_ended_in d (Copying s) = ended (copy_done d s)

unfoldable pub copy_ended : Device → Ended
copy_ended d = copy_ended_in d d.activity
