-- Below, within and above the bounds of a reset.
use Prim.Native.Nat.{◌<◌, ◌≤◌}
use native.Mathlib.Omega.{arith}
use Rattle.captures.specs.RuleLaws.{first_short, first-reset, first-long}
use mathlib.Core.Path.{◌∙◌}
use Rattle.captures.proofs.pulses.after_first_low.Goals as goal

pub returns-then-lasted-lt-SHORTEST_RESET : goal.returns-then-lasted-lt-SHORTEST_RESET
returns-then-lasted-lt-SHORTEST_RESET c =
    let d = c.args.lasted in
    let there : d < 480 = omega arith in
    c.refuse.ensures ∙ first_short _ _ d there

pub returns-then-lasted-le-LONGEST_RESET : goal.returns-then-lasted-le-LONGEST_RESET
returns-then-lasted-le-LONGEST_RESET c =
    let d = c.args.lasted in
    let above : 480 ≤ d = omega arith in
    let below : d ≤ 960 = omega arith in
    c.restart.ensures ∙ first-reset _ _ d above below

pub returns : goal.returns
returns c =
    let d = c.args.lasted in
    let there : 960 < d = omega arith in
    c.refuse-2.ensures ∙ first-long _ _ d there
