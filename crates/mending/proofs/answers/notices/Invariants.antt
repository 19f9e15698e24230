-- The loop's invariant is `Noting`: what is told of the lines so far is laid.
use Rattle.mending.specs.NoticesLaws.{Noting}
use Rattle.mending.proofs.answers.notices.Given as goal

abbrev pub invariant-loop-byte : goal.invariant-loop-byte
invariant-loop-byte l =
    Noting l.before l.report l.initial.out l.byte-index l.number l.written l.out
