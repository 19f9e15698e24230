-- One bit fewer is still to turn.
use Rattle.check_noise.proofs.count.+turned.Given as goal

abbrev pub decreases-turned : goal.decreases-turned
decreases-turned l = l.bits
