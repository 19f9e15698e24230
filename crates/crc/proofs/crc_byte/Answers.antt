-- One entry of a table that has its rule.
use Rattle.crc.proofs.TableLaws.{crc-by-table}
use Rattle.crc.proofs.crc_byte.Goals as goal

pub returns : goal.returns
returns c =
    record { answer = rw c.requires (crc-by-table _ _ c.ranges.register.fits c.ranges.byte.fits) }
