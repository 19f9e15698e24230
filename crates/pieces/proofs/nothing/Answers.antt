-- There is nothing at the front of the line.
use Rattle.pieces.specs.Carried.{carried_in}
use borrow.Author.Rules.{rules}
use Rattle.pieces.proofs.nothing.Goals as goal

pub returns : goal.returns
unfolding carried_in
returns c =
    record { answer = search rules }
