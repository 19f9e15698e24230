-- The scope's twelve cases, P1 to P12, as one list under one statement, `cases-hold`. It speaks of the definitions
-- alone: that the code answers what they say is the promise of each function.
--     crc bytes is byte                      the CRC of the bytes, in the order sent
--     family f register r at c reads t       the reading of these sixteen bits with the configuration c, in the
--                                            family's unit
--     register r high h low l flags b        whether a B reading sets the alarm flag, with limits as their bytes: FFh
--                                            is -1
--     case_reading f bits c                   the reading of sixteen bits, by the decoder that the judgement uses
--     right c                                whether a case is as the definitions have it; the flag is the verdict that
--                                            a device keeps
--     cases                                  the twelve
--     cleared_cases                           bits that a resolution leaves undefined, at both ends of the range
use Rattle.std.specs.Prelude.{ℕ, ◌/◌, ◌%◌, ◌≡◌, refl, Bool, true, false, ◌&&◌, List, [], ◌∷◌, eqb, ℤ, pos, neg_ℤ}
use Rattle.std.specs.Bool.{beq}
use Rattle.std.specs.Int.Signed.{le_z}
use Rattle.basic_laws.specs.Fold.{all, fold}
use Rattle.basic_laws.specs.Bits.{bits_of, bytes_bits}
use Rattle.family.specs.Families.{ds18b20, ds18s20, properties_of}
use Rattle.crc.specs.Crc.{crc_bits, crc_of}
use Rattle.basic_laws.specs.Rounding.{floor_to}
use Rattle.temperature.specs.Alarm.{verdict}
use Rattle.temperature.specs.declared.Reading.{Reading}
use Rattle.temperature.specs.declared.Reading.TheVariants.{InSixteenths, InHalves}
use Rattle.scratchpad.specs.Stored.{reading_in}

-- one claim of the scope
infix 70 crc◌is◌ family◌register◌at◌reads◌ register◌high◌low◌flags◌
pub data Case : Type 0 where
  crc◌is◌ : List ℕ → ℕ → Case
  family◌register◌at◌reads◌ : ℕ → ℕ → ℕ → Reading → Case
  register◌high◌low◌flags◌ : ℕ → ℕ → ℕ → Bool → Case

-- so many sixteenths, or half degrees
abbrev pub sixteenths : ℤ → Reading
sixteenths z = InSixteenths (record { 0 = z })

abbrev pub half_degrees : ℤ → Reading
half_degrees z = InHalves (record { 0 = z })

-- the reading of sixteen bits, from their low and high byte
abbrev pub case_reading : ℕ → ℕ → ℕ → Reading
case_reading f bits c = reading_in (properties_of f) (bits % 256 ∷ bits / 256 ∷ 0 ∷ 0 ∷ c ∷ [])

-- whether two readings are one number in one unit
abbrev pub same_reading : Reading → Reading → Bool
same_reading (InSixteenths a) (InSixteenths b) = le_z a.0 b.0 && le_z b.0 a.0
same_reading (InHalves a) (InHalves b) = le_z a.0 b.0 && le_z b.0 a.0
same_reading (InSixteenths a) (InHalves b) = false
same_reading (InHalves a) (InSixteenths b) = false

abbrev pub right : Case → Bool
right (crc bytes is byte) = eqb (crc_of bytes) byte
right (family f register bits at c reads t) = same_reading (case_reading f bits c) t
right (register bits high h low l flags b) = beq (verdict (case_reading ds18b20 bits 0x7F) h l) b

abbrev pub cases : List Case
cases =
    crc [] is 0x00  -- P1
    ∷ crc (0x00 ∷ 0x00 ∷ 0x00 ∷ 0x00 ∷ 0x00 ∷ 0x00 ∷ 0x00 ∷ 0x00 ∷ []) is 0x00  -- P2
    ∷ crc (0xFF ∷ 0xFF ∷ 0xFF ∷ 0xFF ∷ 0xFF ∷ 0xFF ∷ 0xFF ∷ 0xFF ∷ []) is 0xC9  -- P3
    ∷ crc (0x28 ∷ 0x00 ∷ 0x00 ∷ 0x00 ∷ 0x00 ∷ 0x00 ∷ 0x00 ∷ []) is 0x1E  -- P4
    ∷ crc (0x02 ∷ 0x1C ∷ 0xB8 ∷ 0x01 ∷ 0x00 ∷ 0x00 ∷ 0x00 ∷ []) is 0xA2  -- P5
    ∷ family ds18b20 register 0x0191 at 0x7F reads sixteenths (pos 401)  -- P6
    ∷ family ds18b20 register 0xFC90 at 0x7F reads sixteenths (neg_ℤ (pos 880))  -- P7
    ∷ family ds18s20 register 0xFF92 at 0xFF reads half_degrees (neg_ℤ (pos 110))  -- P8
    ∷ register 0xFFF8 high 50 low 0xFF flags true  -- P9
    ∷ register 0xFFF8 high 1 low 0xFE flags false  -- P10
    ∷ register 0x0191 high 25 low 0 flags true  -- P11
    ∷ register 0x0191 high 26 low 24 flags false  -- P12
    ∷ []

pub cases-hold : all right cases ≡ true
unfolding all crc_of crc_bits fold bytes_bits bits_of floor_to
cases-hold = refl

-- ## Undefined bits (request E2)

-- both ends of the range at each resolution: the highest number that is read as 125 degrees, what is just past it, and
-- the lowest
abbrev pub cleared_cases : List Case
cleared_cases =
    family ds18b20 register 0x0191 at 0x1F reads sixteenths (pos 400)
    ∷ family ds18b20 register 0x07D7 at 0x1F reads sixteenths (pos 2000)
    ∷ family ds18b20 register 0x07D3 at 0x3F reads sixteenths (pos 2000)
    ∷ family ds18b20 register 0x07D1 at 0x5F reads sixteenths (pos 2000)
    ∷ family ds18b20 register 0x07D1 at 0x7F reads sixteenths (pos 2001)
    ∷ family ds18b20 register 0xFC8F at 0x1F reads sixteenths (neg_ℤ (pos 888))
    ∷ family ds18b20 register 0xFC8F at 0x7F reads sixteenths (neg_ℤ (pos 881))
    ∷ family ds18b20 register 0xFFFF at 0x1F reads sixteenths (neg_ℤ (pos 8))
    ∷ family ds18s20 register 0xFFFF at 0x1F reads half_degrees (neg_ℤ (pos 1))
    ∷ []

pub cleared-cases-hold : all right cleared_cases ≡ true
unfolding all floor_to
cleared-cases-hold = refl
