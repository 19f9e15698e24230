-- The other calls on a bench: adding, the end of a conversion or a copy, and a power cycle. None of them looks at the
-- wire, so that a device that holds it stops none of them. A refusal leaves the bench as it was.
--     added_to b new                  5 or 7 for the code, 8 for a code that is there, 9 for a 33rd device, 17 for pins
--                                    over 15 where its family has pins; else the new device after the others
--     conversion_finished b code n    12 for a code that is not there, 13 unless it is converting, 11 for a count out of
--                                    range; else its conversion is done
--     copy_finished b code            12 for a code that is not there, 13 unless it is copying; else its copy is done
--     power_cycled b code             12 for a code that is not there; else the device is powered up again
-- These name one device, the first with the code; no other changes.
use Rattle.std.specs.Prelude.{ℕ, ◌+◌, Bool, true, false, not, eqb, ltb, get_or, set}
use Rattle.std.specs.Prelude.{if◌then◌else◌}
use Rattle.refusals.specs.Refusals.{accepted, duplicate, bench_full, not_found, wrong_pins}
use Rattle.family.specs.Families.{pins_wrong}
use Rattle.rom.specs.Code.{code_refusal}
use Rattle.temperature.specs.declared.Sixteenths.{Sixteenths}
use Rattle.device.specs.Finish.{ended, conversion_ended, copy_ended}
use Rattle.device.specs.Power.{power_up, joined}
use Rattle.device.specs.Record.{family_row}
use Rattle.device.specs.declared.Device.{Device}
use Rattle.device.specs.declared.Ended.{Ended}
use Rattle.device.specs.declared.Joining.{Joining}
use Rattle.bench.specs.declared.Bench.{Bench}
use Rattle.bench.specs.declared.Changed.{Changed}
use Rattle.bench.specs.declared.Looked.{Looked}
use Rattle.bench.specs.declared.Place.{Place}
use Rattle.bench.specs.declared.Place.TheVariants.{At, Nowhere}
use Rattle.bench.specs.Bench.{vacant, place_of}

abbrev pub refused : ℕ → Bench → Changed
refused n b = record { refusal = n; bench = b }

abbrev pub changed : Bench → Changed
changed b = record { refusal = accepted; bench = b }

-- ## Adding

abbrev pub is_there : Place → Bool
is_there (At i) = true
is_there Nowhere = false

abbrev pub with_new : Bench → Device → Bench
with_new b d = record { devices = set b.devices b.count d; count = b.count + 1 }

-- after the others, where there is a place left and the pins can be
abbrev pub put_last : Bench → Joining → Changed
put_last b new =
    if not (ltb b.count 32) then refused bench_full b
    else if pins_wrong (family_row new.code) new.pins then refused wrong_pins b
    else changed (with_new b (joined new))

unfoldable pub added_to : Bench → Joining → Changed
added_to b new =
    if not (eqb (code_refusal new.code) accepted) then refused (code_refusal new.code) b
    else if is_there (place_of b new.code) then refused duplicate b
    else put_last b new

-- ## One device

abbrev pub device_at : Bench → ℕ → Device
device_at b i = get_or b.devices i vacant

abbrev pub with_device : Bench → ℕ → Device → Bench
with_device b i d = record { devices = set b.devices i d; count = b.count }

-- a device after an attempt to end what it does, back at its place
abbrev pub put_back : Bench → ℕ → Ended → Changed
put_back b i e = if eqb e.refusal accepted then changed (with_device b i e.device) else refused e.refusal b

abbrev pub conversion_finished_at : Bench → Sixteenths → Place → Changed
conversion_finished_at b n (At i) = put_back b i (conversion_ended (device_at b i) n)
conversion_finished_at b n Nowhere = refused not_found b

unfoldable pub conversion_finished : Bench → ℕ → Sixteenths → Changed
conversion_finished b code n = conversion_finished_at b n (place_of b code)

abbrev pub copy_finished_at : Bench → Place → Changed
copy_finished_at b (At i) = put_back b i (copy_ended (device_at b i))
copy_finished_at b Nowhere = refused not_found b

unfoldable pub copy_finished : Bench → ℕ → Changed
copy_finished b code = copy_finished_at b (place_of b code)

abbrev pub power_cycled_at : Bench → Place → Changed
power_cycled_at b (At i) = put_back b i (ended (power_up (device_at b i)))
power_cycled_at b Nowhere = refused not_found b

unfoldable pub power_cycled : Bench → ℕ → Changed
power_cycled b code = power_cycled_at b (place_of b code)

-- ## Looking

-- the device with this code, or 12 and a vacant place; nothing changes
abbrev pub looked_at : Bench → Place → Looked
looked_at b (At i) = record { refusal = accepted; device = device_at b i }
looked_at b Nowhere = record { refusal = not_found; device = vacant }

unfoldable pub looked : Bench → ℕ → Looked
looked b code = looked_at b (place_of b code)
