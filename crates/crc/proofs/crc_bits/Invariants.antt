-- The loop's invariant says what is still to come: the register as it stands, fed with the bits that are left, gives
-- the answer.
use Rattle.std.proofs.Common.{◌≡◌, ◌-◌, ◌*◌}
use Rattle.basic_laws.specs.Bits.{bits_of}
use Rattle.crc.specs.Crc.{crc_bits}
use Rattle.crc.proofs.crc_bits.Given as goal

abbrev pub invariant-loop : goal.invariant-loop
invariant-loop l =
    crc_bits l.r (bits_of (l.count - 8 * l.counter) l.left) ≡ crc_bits l.register (bits_of l.count l.number)
