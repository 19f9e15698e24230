-- A number past the first is the last case.
use Rattle.packed_bench.specs.PartsLaws.{nonzero}
use Rattle.device.specs.declared.Power.TheVariants.{Line, External}
use mathlib.Core.List.{[], ◌∷◌}
use lib.ListN.{get_or-eq_default}
use mathlib.Core.Path.{sym}
use Rattle.packed_bench.proofs.record_parts.power_of.Goals as goal

pub returns-in_default : goal.returns-in_default
returns-in_default c =
    record {
      answer = let n = c.args.byte in
          sym (get_or-eq_default (Line ∷ []) External (nonzero n c.in_default.in_default-own.rest.1));
    }
