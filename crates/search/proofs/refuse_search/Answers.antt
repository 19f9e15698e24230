-- A refusal counts nothing.
use mathlib.Core.Path.{sym}
use Rattle.search.specs.Sweep.{refused-answer}
use Rattle.search.proofs.refuse_search.Goals as goal

pub returns : goal.returns
returns c =
    record { answer = sym (refused-answer _ _) }
