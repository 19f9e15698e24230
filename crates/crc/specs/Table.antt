-- The table by which the code takes a byte into the CRC, by its rule. No promise that a caller sees speaks of it.
--     registers i n      the registers after eight zero bits, from register i on, n of them
use Rattle.std.specs.Prelude.{ℕ, zero, suc, List, [], ◌∷◌}
use Rattle.basic_laws.specs.Bits.{bits_of}
use Rattle.crc.specs.Crc.{crc_bits}

unfoldable pub registers : ℕ → ℕ → List ℕ
registers i zero = []
registers i (suc n) = crc_bits i (bits_of 8 0) ∷ registers (suc i) n
