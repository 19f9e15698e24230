-- That it misses nobody, after every history, is the theorem of demand 3.
use Rattle.history_laws.proofs.Theorem.{alarm-promised}
use Rattle.search.proofs.alarm_search.Goals as goal

pub returns-clause-history : goal.returns-clause-history
returns-clause-history c =
    alarm-promised _ _ _
