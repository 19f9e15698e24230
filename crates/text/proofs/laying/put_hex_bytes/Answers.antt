use Prim.Native.Nat.{◌<◌}
use mathlib.Core.Path.{refl, ◌∙◌}
use native.Mathlib.Omega.{arith}
use lib.ListN.{length}
use Rattle.basic_laws.specs.LaidLaws.{laid_none}
use Rattle.text.specs.Digits.{hex_of}
use Rattle.text.proofs.LayingLaws.{laid-hex}
use Rattle.text.proofs.laying.put_hex_bytes.Goals as goal

pub loop-i-init : goal.loop-i-init
unfolding hex_of
loop-i-init c =
    (omega arith, refl, laid_none _ _)

pub loop-i-preserved : goal.loop-i-preserved
loop-i-preserved c =
    let h : c.loop-i.i < length c.args.bytes.now = omega arith in (
      omega arith,
      c.put_digits.auto.out ∙ c.loop-i.invariant.1,
      c.put_digits.ensures ∙ rw c.loop-i.invariant.2 (laid-hex _ _ _ _ h c.requires),
    )
