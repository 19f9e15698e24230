use Rattle.crc.specs.Laws.{crc-turn, crc-done}
use Rattle.crc.proofs.crc_bit_by_bit.Goals as goal

pub loop-preserved : goal.loop-preserved
loop-preserved c =
    rw (c.crc_bit-r.ensures.answer, ← crc-turn _ _ c.args.count c.loop.counter c.loop-test.true) c.loop.invariant

pub returns : goal.returns
returns c =
    record { answer = rw (← crc-done c.loop.r c.loop.left c.args.count c.loop.counter c.loop-test.false) c.loop.invariant }
