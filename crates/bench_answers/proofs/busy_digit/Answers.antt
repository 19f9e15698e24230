-- Activity by activity.
use Rattle.bench_answers.proofs.busy_digit.Goals as goal

pub returns-in-Idle : goal.returns-in-Idle
returns-in-Idle c =
    rw c.in-Idle.is

pub returns-in-Converting : goal.returns-in-Converting
returns-in-Converting c =
    rw c.in-Converting.is

pub returns-in-Copying : goal.returns-in-Copying
returns-in-Copying c =
    rw c.in-Copying.is
