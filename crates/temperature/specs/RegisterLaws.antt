-- A reading is settled by its unit and count; a reading goes to its two bytes and back, and two bytes to their raw
-- reading and back: `reading-register` and `register-reading`.
use Rattle.std.specs.Prelude.{ℕ, ◌+◌, ◌*◌, ◌/◌, ◌%◌, ◌<◌, ◌≡◌, refl, ℤ}
use Rattle.std.proofs.Common.{arith}
use Rattle.family.specs.declared.Unit.{Unit}
use Rattle.family.specs.declared.Unit.TheVariants.{Sixteenths as inSixteenths, HalfDegrees as inHalfDegrees}
use Rattle.basic_laws.specs.Complement.{Fits16, signed16, bits16}
use Rattle.basic_laws.proofs.ComplementLaws.{signed-bits, bits-signed}
use Rattle.temperature.specs.declared.Reading.{Reading}
use Rattle.temperature.specs.declared.Reading.TheVariants.{InSixteenths, InHalves}
use Rattle.temperature.specs.Register.{unit_of, count_of, reading_with, count_bytes, register_of, raw_reading}

-- ## A reading and its values

pub reading-values : (r : Reading) → reading_with (unit_of r) (count_of r) ≡ r
reading-values (InSixteenths c) = refl
reading-values (InHalves h) = refl

pub unit-with : (unit : Unit) (z : ℤ) → unit_of (reading_with unit z) ≡ unit
unit-with inSixteenths z = refl
unit-with inHalfDegrees z = refl

pub count-with : (unit : Unit) (z : ℤ) → count_of (reading_with unit z) ≡ z
count-with inSixteenths z = refl
count-with inHalfDegrees z = refl

-- ## There and back

-- the sixteen bits from the two bytes
bits-joined : (z : ℤ) → (count_bytes z).low + 256 * (count_bytes z).high ≡ bits16 z
bits-joined z = let n = bits16 z in omega arith

pub reading-register : (r : Reading) → Fits16 (count_of r)
    → raw_reading (unit_of r) (register_of r).low (register_of r).high ≡ r
reading-register r f = rw (bits-joined (count_of r), signed-bits (count_of r) f) (reading-values r)

pub register-reading : (unit : Unit) (low high : ℕ) → low < 256 → high < 256
    → register_of (raw_reading unit low high) ≡ record { low = low; high = high }
register-reading unit low high h k =
    let b : low + 256 * high < 65536 = omega arith in
    let l : (low + 256 * high) % 256 ≡ low = omega arith in
    let u : (low + 256 * high) / 256 ≡ high = omega arith in
    rw (count-with unit (signed16 (low + 256 * high)), bits-signed (low + 256 * high) b, l, u)
