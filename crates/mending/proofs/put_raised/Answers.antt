use Rattle.std.proofs.Common.{◌≡◌, ◌+◌, ◌<◌, map, length, sym, refl, ◌∙◌, arith, length-set}
use lib.ListN.{length-map, get_or-map}
use Rattle.basic_laws.specs.LaidLaws.{laid_next, laid_none}
use Rattle.mending.specs.Mending.{raised}
use Rattle.mending.proofs.put_raised.Goals as goal

pub loop-i-init : goal.loop-i-init
loop-i-init c =
    record { size = refl; text = laid_none _ 0 }

pub loop-i-preserved : goal.loop-i-preserved
loop-i-preserved c =
    let line = c.args.line.now in
    let i = c.loop-i.i in
    let size = length-map line raised in
    let room = c.requires in
    let within : i < length (map raised line) = omega arith in
    let place : i < length c.args.out.now = omega arith in
    let front : 0 + i ≡ i = omega arith in record {
      size = simp length-set c.loop-i.invariant.size;
      text = rw c.loop-i.invariant.text (laid_next c.args.out.now 0 (map raised line) i i 0 c.raise.result front within
          place (c.raise.ensures ∙ sym (get_or-map raised line i 0)));
    }
