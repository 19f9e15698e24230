-- By the ranges of the letters.
use Rattle.mending.specs.StepLaws.{raised_below, raised-letter, raised-above}
use Rattle.mending.proofs.raise.Goals as goal

pub returns-then-c-lt97 : goal.returns-then-c-lt97
returns-then-c-lt97 c =
    raised_below c.args.c c.if-c-lt97.true

pub returns-then-c-le102 : goal.returns-then-c-le102
returns-then-c-le102 c =
    raised-letter c.args.c c.if-c-lt97.false c.if-c-le102.true

pub returns-else-c-le102 : goal.returns-else-c-le102
returns-else-c-le102 c =
    raised-above c.args.c c.if-c-le102.false
