-- The definition's bytes are the 64 zeros that the code names.
use Rattle.frame.specs.Frames.{no_bits}
use borrow.Author.Rules.{rules}
use Rattle.frame.proofs.blank.Goals as goal

pub returns : goal.returns
unfolding no_bits
returns c =
    record { answer = search rules }
