use Rattle.std.proofs.Common.{rules, ◌≡◌, length}
use Rattle.basic_laws.specs.FrontLaws.{front-none, front-more}
use Rattle.device.specs.Power.{reset_of}
use Rattle.bench.proofs.Chains.{front_rejoined}
use Rattle.bench.proofs.wire.restart_all.Goals as goal

pub loop-d-init : goal.loop-d-init
loop-d-init c =
    front-none _ _

pub loop-d-preserved : goal.loop-d-preserved
loop-d-preserved c =
    rw (c.reset.ensures.answer, c.loop-d.invariant) (front-more _ _ _ _)

pub returns : goal.returns
returns c =
    record {
      answer = let long : length c.args.devices ≡ 32 = search rules in
          front_rejoined reset_of _ 32 _ _ _ _ long c.places.ensures.answer c.loop-d.invariant c.loop-d-test.false;
    }
