use Rattle.std.proofs.Common.{rules}
use Rattle.basic_laws.specs.AllLaws.{all_told}
use Rattle.scratchpad.proofs.all_zeros.Goals as goal

pub returns : goal.returns
returns c = record { answer = all_told _ _ _ (search rules) }
