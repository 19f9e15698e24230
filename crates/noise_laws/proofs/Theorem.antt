-- How much noise a CRC can let pass: `noise-noticed`. Each part is proved where its idea is told.
use Rattle.crc.proofs.SumZeroLaws.{crc-sum-zero}
use Rattle.noise_laws.specs.Claims.{NoiseClaim}
use Rattle.noise_laws.specs.DistanceLaws.{distance}
use Rattle.noise_laws.specs.HiddenLaws.{tight}
use Rattle.noise_laws.proofs.NoticedLaws.{scratchpads-noticed, codes-noticed}

pub noise-noticed : NoiseClaim
noise-noticed = record {
  linear = crc-sum-zero;
  distance = distance;
  tight = tight;
  scratchpads = scratchpads-noticed;
  codes = codes-noticed;
}
