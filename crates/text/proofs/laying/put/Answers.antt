use Rattle.std.proofs.Common.{◌+◌, ◌<◌, length, refl, arith, length-set}
use Rattle.basic_laws.specs.LaidLaws.{laid_none, laid_next}
use Rattle.text.proofs.laying.put.Goals as goal

pub loop-i-init : goal.loop-i-init
loop-i-init c = record { size = refl; text = laid_none _ _ }

pub loop-i-preserved : goal.loop-i-preserved
loop-i-preserved c =
    let i = c.loop-i.i in
    let room = c.requires in
    let within : i < length c.args.text.now = omega arith in
    let place : c.args.at + i < length c.args.out.now = omega arith in record {
      size = simp length-set c.loop-i.invariant.size;
      text = rw c.loop-i.invariant.text (laid_next _ c.args.at c.args.text.now i _ 0 _ refl within place refl);
    }
