-- One return for each number, and one for all numbers past them.
use Rattle.packed_bench.specs.Parts.{stages}
use Rattle.packed_bench.specs.PartsLaws.{nonzero, past}
use Rattle.device.specs.declared.Stage.TheVariants.{Quiet}
use lib.ListN.{get_or-eq_default}
use mathlib.Core.Path.{sym}
use Rattle.packed_bench.proofs.record_parts.stage_of.Goals as goal

pub returns-in-0 : goal.returns-in-0
returns-in-0 c =
    record { answer = simp c.in-0.is }

pub returns-in-1 : goal.returns-in-1
returns-in-1 c =
    record { answer = simp c.in-1.is }

pub returns-in-2 : goal.returns-in-2
returns-in-2 c =
    record { answer = simp c.in-2.is }

pub returns-in-3 : goal.returns-in-3
returns-in-3 c =
    record { answer = simp (c.in-3.is, c.phase_of-phase.ensures.answer) }

pub returns-in-4 : goal.returns-in-4
returns-in-4 c =
    record { answer = simp c.in-4.is }

pub returns-in-5 : goal.returns-in-5
returns-in-5 c =
    record { answer = simp c.in-5.is }

pub returns-in-6 : goal.returns-in-6
returns-in-6 c =
    record { answer = simp c.in-6.is }

pub returns-in-7 : goal.returns-in-7
returns-in-7 c =
    record { answer = simp c.in-7.is }

pub returns-in-8 : goal.returns-in-8
returns-in-8 c =
    record { answer = simp c.in-8.is }

pub returns-in_default : goal.returns-in_default
returns-in_default c =
    record {
      answer = let x = c.args.x in
          let n = x.0 in
          let r = c.in_default.in_default-own.rest in
          let p3 = past n 2 (past n 1 (nonzero n r.0.0.0.0.0.0.0.0.1) r.0.0.0.0.0.0.0.1)
          r.0.0.0.0.0.0.1 in
          let p6 = past n 5 (past n 4 (past n 3 p3 r.0.0.0.0.0.1) r.0.0.0.0.1) r.0.0.0.1 in
          let p9 = past n 8 (past n 7 (past n 6 p6 r.0.0.1) r.0.1) r.1 in
          sym (get_or-eq_default (stages x.1 x.2 x.3) Quiet p9);
    }
