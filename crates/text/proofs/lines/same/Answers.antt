use Rattle.std.proofs.Common.{rules}
use Rattle.basic_laws.specs.SameLaws.{same_told}
use Rattle.text.proofs.lines.same.Goals as goal

pub returns : goal.returns
returns c = record { answer = same_told _ _ _ (search rules) }
