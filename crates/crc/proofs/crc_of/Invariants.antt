-- The loop's invariant: the register is the CRC of the bytes passed.
use Rattle.std.proofs.Common.{◌≡◌, take}
use Rattle.crc.specs.Crc.{crc_of}
use Rattle.crc.proofs.crc_of.Given as goal

abbrev pub invariant-loop-byte : goal.invariant-loop-byte
invariant-loop-byte l =
    l.r ≡ crc_of (take l.byte-index l.bytes)
