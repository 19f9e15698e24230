-- ROM codes (the scope, "Codes and the CRC"): a number of 64 bits, sent least significant bit first.
--     family_of c       bits 0 to 7
--     serial_of c       bits 8 to 55
--     crc_byte_of c      bits 56 to 63
--     code_bits c       the 64 bits in the order in which they are sent
--     code_refusal c    5 where the CRC byte is not the CRC of the other seven, else 7 where the family is none of ours,
--                      else 0
--     sound c          the scope's "sound": not refused
-- The code 0 has a right CRC and is refused for its family.
use Rattle.std.specs.Prelude.{ℕ, ◌/◌, ◌%◌, ◌^◌, Bool, not, List, eqb}
use Rattle.std.specs.Prelude.{if◌then◌else◌}
use Rattle.basic_laws.specs.Bits.{bits_of}
use Rattle.refusals.specs.Refusals.{accepted, wrong_crc, wrong_kind}
use Rattle.family.specs.Families.{properties_of}
use Rattle.crc.specs.Crc.{crc_bits}

abbrev pub family_of : ℕ → ℕ
family_of c = c % 256

abbrev pub serial_of : ℕ → ℕ
serial_of c = c / 256 % 2 ^ 48

abbrev pub crc_byte_of : ℕ → ℕ
crc_byte_of c = c / 2 ^ 56 % 256

abbrev pub code_bits : ℕ → List Bool
code_bits c = bits_of 64 c

unfoldable pub code_refusal : ℕ → ℕ
code_refusal c =
    if not (eqb (crc_byte_of c) (crc_bits 0 (bits_of 56 c))) then wrong_crc
    else if not (properties_of (family_of c)).known then wrong_kind
    else accepted

abbrev pub sound : ℕ → Bool
sound c = eqb (code_refusal c) accepted
