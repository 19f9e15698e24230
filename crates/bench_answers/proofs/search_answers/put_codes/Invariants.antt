-- The loop's invariant: the lines of the codes before the place are laid, and `to` is the place behind them.
use Rattle.std.proofs.Common.{◌≡◌, ◌+◌, ◌*◌, take}
use Rattle.basic_laws.specs.Laid.{laid}
use Rattle.bench_answers.specs.Answers.{code_lines}
use Rattle.bench_answers.proofs.search_answers.put_codes.Given as goal

abbrev pub invariant-loop-code : goal.invariant-loop-code
invariant-loop-code l =
    (l.to ≡ l.at + 17 * l.code-index)
    × (l.out ≡ laid l.initial.out l.at (code_lines (take l.code-index l.codes)))
