-- The loop's invariant: what is held is the line with the characters passed.
use Rattle.std.proofs.Common.{◌≡◌, take}
use Rattle.basic_laws.specs.Fold.{fold}
use Rattle.captures.specs.Partial.{longer_partial}
use Rattle.captures.proofs.edge_lines.gather.Given as goal

abbrev pub invariant-loop-c : goal.invariant-loop-c
invariant-loop-c l = l.held ≡ fold longer_partial l.initial.held (take l.c-index l.characters)
