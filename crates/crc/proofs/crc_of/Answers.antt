use Rattle.std.proofs.Common.{refl}
use Rattle.basic_laws.specs.Fold.{fold}
use Rattle.basic_laws.specs.Bits.{bytes_bits}
use Rattle.crc.specs.Crc.{crc_bits, crc_of}
use Rattle.crc.specs.Laws.{crc-byte-more}
use Rattle.crc.proofs.crc_of.Goals as goal

pub loop-byte-init : goal.loop-byte-init
unfolding crc_of crc_bits bytes_bits fold
loop-byte-init c = refl

pub loop-byte-preserved : goal.loop-byte-preserved
loop-byte-preserved c =
    rw (c.crc_byte-r.ensures.answer, c.loop-byte.invariant) (crc-byte-more _ _ c.loop-byte-test.true)
