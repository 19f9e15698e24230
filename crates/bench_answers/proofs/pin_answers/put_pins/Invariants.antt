-- The loop's invariant: the lines of the probes so far are laid, and `to` is the place behind them (`Put`).
use Rattle.std.proofs.Common.{length}
use Rattle.bench_answers.specs.PinLinesLaws.{Put}
use Rattle.bench_answers.proofs.pin_answers.put_pins.Given as goal

abbrev pub invariant-loop-code : goal.invariant-loop-code
invariant-loop-code l =
    Put l.initial.out l.at l.codes l.pins (length l.yielded) l.to l.out
