-- The CRC of a sum of strings, from the register that is zero.
--     crc-sum-zero       the CRC of a sum is the sum of the CRCs
use Rattle.std.specs.Prelude.{◌≡◌, Bool, List, length}
use Rattle.std.specs.Int.Bits.{bit_xor}
use Rattle.basic_laws.specs.Sums.{sum}
use Rattle.crc.specs.Crc.{crc_bits}
use Rattle.crc.proofs.SumLaws.{crc-sum}

pub crc-sum-zero : (a b : List Bool) → length a ≡ length b → crc_bits 0 (sum a b) ≡ bit_xor (crc_bits 0 a) (crc_bits 0 b)
crc-sum-zero a b h = crc-sum 0 0 a b h
