-- The 1-Wire CRC, X^8 + X^5 + X^4 + 1 (the scope, "Codes and the CRC"; Application Note 27): an eight-bit register, fed
-- with the bits as sent.
--     taps             the polynomial's terms X^5, X^4 and 1, in a register whose lowest bit leaves first
--     crc_bit r b       the register after one bit: it moves down by one, and the taps flip where the bit that left
--                      differs from b
--     crc_bits r bs     the register after these bits, from register r; r itself for no bits
--     crc_of l          the CRC of bytes: the register starts at zero and takes each byte's bits, least significant
--                      first; 0 for no bytes
use Rattle.std.specs.Prelude.{ℕ, ◌/◌, Bool, List}
use Rattle.std.specs.Bool.{beq}
use Rattle.std.specs.Int.Bits.{bit_xor}
use Rattle.std.specs.Prelude.{if◌then◌else◌}
use Rattle.basic_laws.specs.Fold.{fold}
use Rattle.basic_laws.specs.Bits.{odd, bytes_bits}

abbrev pub taps : ℕ
taps = 0x8C

abbrev pub crc_bit : ℕ → Bool → ℕ
crc_bit r b = if beq (odd r) b then r / 2 else bit_xor (r / 2) taps

unfoldable pub crc_bits : ℕ → List Bool → ℕ
crc_bits r bs = fold crc_bit r bs

unfoldable pub crc_of : List ℕ → ℕ
crc_of l = crc_bits 0 (bytes_bits l)
