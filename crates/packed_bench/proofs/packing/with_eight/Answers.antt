-- What is copied over a part is laid over it.
use Rattle.std.proofs.Common.{arith}
use Rattle.packed_bench.specs.LoopLaws.{laid-mid}
use Rattle.packed_bench.proofs.packing.with_eight.Goals as goal

pub returns : goal.returns
returns c =
    record { answer = laid-mid c.args.at _ c.args.t _ c.args.b c.copy_from_slice.ensures.after (omega arith) }
