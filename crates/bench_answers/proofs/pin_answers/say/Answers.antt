-- The counts, and behind them a line for each probe.
use native.Mathlib.Omega.{arith}
use lib.ListN.{length}
use Rattle.bench_answers.specs.PinLines.{pins_line, pin_lines}
use Rattle.bench_answers.specs.PinLinesLaws.{counts-put, says-pins}
use Rattle.bench_answers.proofs.pin_answers.say.Goals as goal

pub put_pins-end-requires : goal.put_pins-end-requires
put_pins-end-requires c =
    let a = c.args in
    let few = c.requires.0 in
    let wide = c.requires.3 in
    let short = c.requires.2 in
    let done = counts-put a.out.now (pins_line a.refusal (length a.codes.now) a.shared)
    c.put_counts-behind_counts.new.out c.put_counts-behind_counts.result c.requires.3 c.requires.2
    c.put_counts-behind_counts.ensures in
    (c.requires.1, omega (arith, few, wide, short, done.0, done.2))

pub returns : goal.returns
returns c =
    let a = c.args in
    let few = c.requires.0 in
    let done = c.put_pins-end.ensures in
    let most = done.2 in
    says-pins a.out.now (pins_line a.refusal (length a.codes.now) a.shared) c.put_counts-behind_counts.new.out
    c.put_counts-behind_counts.result c.requires.3 c.requires.2 c.put_counts-behind_counts.ensures
    (pin_lines a.codes.now a.pins.now) c.put_pins-end.new.out c.put_pins-end.result a.bench
    (omega (arith, few, most)) done.0 done.1
