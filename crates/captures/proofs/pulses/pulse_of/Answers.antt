-- One return for each stretch between two bounds of the table.
use Prim.Native.Nat.{◌<◌, ◌≤◌}
use native.Mathlib.Omega.{arith}
use Rattle.captures.specs.BoundsLaws.{pulse-none, pulse-one, pulse-zero, pulse-between, pulse-reset, pulse-long}
use Rattle.captures.proofs.pulses.pulse_of.Goals as goal

pub returns-then-lasted-lt-SHORTEST_ONE : goal.returns-then-lasted-lt-SHORTEST_ONE
returns-then-lasted-lt-SHORTEST_ONE c =
    let d = c.args.lasted in
    let there : d < 1 = omega arith in
    pulse-none d there

pub returns-then-lasted-le-LONGEST_ONE : goal.returns-then-lasted-le-LONGEST_ONE
returns-then-lasted-le-LONGEST_ONE c =
    let d = c.args.lasted in
    let above : 1 ≤ d = omega arith in
    let below : d ≤ 15 = omega arith in
    pulse-one d above below

pub returns-then-lasted-le-LONGEST_ZERO : goal.returns-then-lasted-le-LONGEST_ZERO
returns-then-lasted-le-LONGEST_ZERO c =
    let d = c.args.lasted in
    let above : 15 < d = omega arith in
    let below : d ≤ 120 = omega arith in
    pulse-zero d above below

pub returns-then-lasted-lt-SHORTEST_RESET : goal.returns-then-lasted-lt-SHORTEST_RESET
returns-then-lasted-lt-SHORTEST_RESET c =
    let d = c.args.lasted in
    let above : 120 < d = omega arith in
    let below : d < 480 = omega arith in
    pulse-between d above below

pub returns-then-lasted-le-LONGEST_RESET : goal.returns-then-lasted-le-LONGEST_RESET
returns-then-lasted-le-LONGEST_RESET c =
    let d = c.args.lasted in
    let above : 480 ≤ d = omega arith in
    let below : d ≤ 960 = omega arith in
    pulse-reset d above below

pub returns : goal.returns
returns c =
    let d = c.args.lasted in
    let there : 960 < d = omega arith in
    pulse-long d there
