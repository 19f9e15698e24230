use Rattle.std.proofs.Common.{rules}
use Rattle.basic_laws.specs.AllLaws.{all_told}
use Rattle.text.proofs.numbers.all_digits.Goals as goal

pub returns : goal.returns
returns c = record { answer = all_told _ _ _ (search rules) }
