-- A number past the first two is the last case.
use Rattle.packed_bench.specs.PartsLaws.{nonzero, past}
use Rattle.device.specs.declared.Activity.TheVariants.{Idle, Converting}
use mathlib.Core.List.{[], ◌∷◌}
use lib.ListN.{get_or-eq_default}
use mathlib.Core.Path.{sym}
use Rattle.packed_bench.proofs.record_parts.activity_of.Goals as goal

pub returns-in_default : goal.returns-in_default
returns-in_default c =
    record {
      answer = let n = c.args.x.0 in
          sym (get_or-eq_default (Idle ∷ Converting ∷ [])
          _ (past n 1 (nonzero n c.in_default.in_default-own.rest.0.1) c.in_default.in_default-own.rest.1));
    }
