-- What is copied over a part is laid over it.
use Rattle.std.proofs.Common.{arith}
use Rattle.packed_bench.specs.LoopLaws.{laid-mid}
use Rattle.packed_bench.proofs.entries.put_entry.Goals as goal

pub returns : goal.returns
returns c =
    record { written = laid-mid c.args.at _ c.args.t.now _ c.args.e c.copy_from_slice.ensures.after (omega arith) }
