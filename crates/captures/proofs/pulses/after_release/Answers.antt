-- Below the wait, within it, between it and silence, and silence.
use Prim.Native.Nat.{◌<◌, ◌≤◌}
use native.Mathlib.Omega.{arith}
use Rattle.captures.specs.RuleLaws.{gap-short, gap-wait, gap-between, gap-silence}
use mathlib.Core.Path.{◌∙◌}
use Rattle.captures.proofs.pulses.after_release.Goals as goal

pub returns-then-lasted-lt-SHORTEST_WAIT : goal.returns-then-lasted-lt-SHORTEST_WAIT
returns-then-lasted-lt-SHORTEST_WAIT c =
    let d = c.args.lasted in
    let there : d < 15 = omega arith in
    c.refuse.ensures ∙ gap-short _ _ d there

pub returns-then-lasted-le-LONGEST_WAIT : goal.returns-then-lasted-le-LONGEST_WAIT
returns-then-lasted-le-LONGEST_WAIT c =
    let d = c.args.lasted in
    let above : 15 ≤ d = omega arith in
    let below : d ≤ 60 = omega arith in
    c.move_on.ensures ∙ gap-wait _ _ d above below

pub returns-then-lasted-lt-SHORTEST_SILENCE : goal.returns-then-lasted-lt-SHORTEST_SILENCE
returns-then-lasted-lt-SHORTEST_SILENCE c =
    let d = c.args.lasted in
    let above : 60 < d = omega arith in
    let below : d < 480 = omega arith in
    c.refuse-then-lasted-lt-SHORTEST_SILENCE.ensures ∙ gap-between _ _ d above below

pub returns : goal.returns
returns c =
    let d = c.args.lasted in
    let there : 480 ≤ d = omega arith in
    c.move_on-2.ensures ∙ gap-silence _ _ d there
