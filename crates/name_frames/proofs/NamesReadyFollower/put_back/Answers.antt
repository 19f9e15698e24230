use Rattle.std.proofs.Common.{arith}
use Rattle.pieces.specs.Carried.{carried_in}
use Rattle.pieces.specs.CarriedLaws.{laid-taken}
use Rattle.name_frames.proofs.NamesReadyFollower.put_back.Goals as goal

pub returns-clause-front : goal.returns-clause-front
returns-clause-front c =
    let put = c.put_back in
    let few = put.ensures.few in
    (laid-taken c.args.buffer.now (carried_in c.args.self.now.carried) (omega arith) put.result put.new.buffer
    put.ensures.answer put.ensures.written).1
