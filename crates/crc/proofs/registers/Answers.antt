-- The test of the table: `refl` computes its rule at all 256 places and compares.
use mathlib.Core.Path.{refl}
use Rattle.basic_laws.specs.Fold.{fold}
use Rattle.basic_laws.specs.Bits.{bits_of}
use Rattle.crc.specs.Crc.{crc_bits}
use Rattle.crc.specs.Table.{registers}
use Rattle.crc.proofs.registers.Goals as goal

pub returns : goal.returns
unfolding registers crc_bits bits_of fold
returns c =
    record { answer = refl }
