use Rattle.std.proofs.Common.{arith, rules, refl}
use Rattle.basic_laws.specs.Fold.{fold}
use Rattle.basic_laws.specs.FoldLaws.{fold_step}
use Rattle.master_rules.specs.Pins.{pins_step, nobody_read}
use Rattle.pins.specs.ReadingLaws.{holds-none}
use Rattle.pins.proofs.read_all.Goals as goal

pub loop-code-init : goal.loop-code-init
unfolding fold
loop-code-init c =
    record { few = omega arith; as_long = refl; holds = holds-none c.args.list.now c.args.bench c.requires.1 }

pub loop-code-preserved : goal.loop-code-preserved
loop-code-preserved c =
    let a = c.args in
    let inv = c.loop-code.invariant in
    let ended = c.read_one-r.ensures in
    let next = fold_step pins_step (nobody_read a.bench) c.loop-code.code-index a.codes.now 0 c.loop-code-test.true in
    record {
      few = omega (arith, ended.0);
      as_long = search rules;
      holds = rw (← next) (ended.1 a.list.now _ inv.holds);
    }
