-- The work that the measures have in common.
--     code_numbered n         the code of family 28h with the serial number n, of 48 bits
--     numbered n              a device of that code, supplied, with limits of 25 and 0 degrees and 12 bits
--     offered p               what the master offers in slot p behind a reset: 33h, 64 slots to read the code, BEh, and
--                             slots to read
use Rattle.std.specs.Prelude.{ℕ, ◌+◌, ◌-◌, ◌*◌, ◌%◌, ◌^◌, Bool, ltb}
use Rattle.std.specs.Prelude.{if◌then◌else◌}
use Rattle.commands.specs.Bytes.{byte_slot}
use Rattle.basic_laws.specs.Bits.{bits_of}
use Rattle.crc.specs.Crc.{crc_bits}
use Rattle.device.specs.declared.Joining.{Joining}
use Rattle.device.specs.declared.Power.TheVariants.{External}

abbrev pub code_numbered : ℕ → ℕ
code_numbered n =
    let low = n % 2 ^ 48 * 256 + 0x28 in
    low + crc_bits 0 (bits_of 56 low) * 2 ^ 56

abbrev pub numbered : ℕ → Joining
numbered n = record { code = code_numbered n; power = External; high = 25; low = 0; configuration = 0x7F; pins = 0 }

abbrev pub offered : ℕ → Bool
offered p = if ltb p 72 then byte_slot 0x33 p else byte_slot 0xBE (p - 72)
