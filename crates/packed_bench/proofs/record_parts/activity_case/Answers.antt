-- One return for each case.
use Rattle.packed_bench.proofs.record_parts.activity_case.Goals as goal

pub returns-in-Idle : goal.returns-in-Idle
returns-in-Idle c =
    record { answer = simp c.in-Idle.is }

pub returns-in-Converting : goal.returns-in-Converting
returns-in-Converting c =
    record { answer = simp c.in-Converting.is }

pub returns-in-Copying : goal.returns-in-Copying
returns-in-Copying c =
    record { answer = simp c.in-Copying.is }
