use Rattle.std.proofs.Common.{◌≡◌, ◌+◌, ◌-◌, ◌*◌, ◌≤◌, arith}
use Rattle.crc.specs.Laws.{crc-byte-turn}
use Rattle.crc.proofs.crc_bits.Goals as goal

pub loop-preserved : goal.loop-preserved
loop-preserved c =
    let count = c.args.count in
    let i = c.loop.counter in
    let enough : 8 ≤ count - 8 * i = omega (arith, c.loop-test.true) in
    let next : count - 8 * (i + 1) ≡ count - 8 * i - 8 = omega arith in
    rw (
      c.crc_byte-r.ensures.answer,
      next,
      crc-byte-turn _ c.loop.left (count - 8 * i) enough,
    ) c.loop.invariant
