-- What each call leaves of the devices on the wire (the scope, "One slot"): a slot and a reset go to every device
-- alike, adding puts the new one after the others, and a call that names a code changes the device with that code and
-- no other. A refused call changes nothing.
--     slot_cases, reset-cases, added-cases, conversion-cases, copy-cases, cycle-cases
--                                  what holds of a refusal and of what else a call does holds of the call
--     Added b new after            the new device stands after the others, which are as they were
--     OneChanged b code f after    the device with the code, and it alone, has become f of what it was
--     ..-refused                   a refused call changes nothing
--     place_found, place-nowhere   the place of a code is where a device has it; nowhere if none has
use Rattle.std.specs.Prelude.{◌+◌, ◌<◌, ◌≡◌, ◌≢◌, true, false, [], ◌∷◌, ◌++◌, length, drop}
use Rattle.basic_laws.specs.Each.{Each}
use Rattle.family.specs.Families.{pins_wrong}
use Rattle.rom.specs.Code.{sound}
use Rattle.device.specs.Power.{joined}
use Rattle.device.specs.declared.Joining.{Joining}
use Rattle.bench.specs.declared.Bench.{Bench}
use Rattle.device.specs.Record.{family_row}
use Rattle.bench.specs.Bench.{live, place_of, vacant}
use Rattle.bench.specs.Calls.{device_at}
use Rattle.bench.specs.declared.Place.TheVariants.{At}
use Rattle.device.specs.declared.Device.{Device}
use Rattle.std.specs.Prelude.{ℕ, get_or, set}

-- ## Adding

pub record Added (b : Bench) (new : Joining) (after : Bench) : Type 0 where
  pub code-sound : sound new.code ≡ true
  pub code-new : Each (λ d. d.code ≢ new.code) (live b)
  pub room : b.count < 32
  pub pins-right : pins_wrong (family_row new.code) new.pins ≡ false
  pub live-is : live after ≡ live b ++ (joined new ∷ [])
  pub count-is : after.count ≡ b.count + 1
  pub places-are : length after.devices ≡ length b.devices
  pub rest-is : drop (b.count + 1) after.devices ≡ drop (b.count + 1) b.devices

-- ## One device

pub record OneChanged (b : Bench) (code : ℕ) (f : Device → Device) (after : Bench) : Type 0 where
  pub place : ℕ
  pub place_is : place_of b code ≡ At place
  pub device-is : get_or (live b) place vacant ≡ device_at b place
  pub within : place < length (live b)
  pub code-there : (get_or (live b) place vacant).code ≡ code
  pub live-is : live after ≡ set (live b) place (f (get_or (live b) place vacant))
  pub count-is : after.count ≡ b.count
  pub places-are : length after.devices ≡ length b.devices
  pub rest-is : drop b.count after.devices ≡ drop b.count b.devices
