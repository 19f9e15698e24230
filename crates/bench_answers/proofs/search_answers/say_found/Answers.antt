-- Three parts, one behind the other: the counts are at most 64 bytes, the codes at most 544, the frames at most 1,824.
use Prim.Native.Nat.{ℕ, ◌+◌}
use mathlib.Core.Path.{sym, ap, ◌∙◌}
use native.Mathlib.Omega.{arith}
use lib.ListN.{length}
use Rattle.basic_laws.specs.LaidLaws.{laid-length}
use Rattle.bench_answers.specs.Answers.{search_line, code_lines}
use Rattle.bench_answers.specs.AnswersLaws.{search-short, code-lines-length}
use Rattle.bench_answers.specs.FoundLaws.{line-laid, says-found, codes-few as lines-few}
use borrow.Author.Rules.{rules}
use Rattle.bench_answers.proofs.search_answers.say_found.Goals as goal

pub put_codes-behind_codes-requires : goal.put_codes-behind_codes-requires
put_codes-behind_codes-requires c =
    let codes-few = c.requires.0 in
    let bytes-few = c.requires.1 in
    let long = c.requires.2 in
    let short = search-short c.args.refusal (length c.args.codes.now) c.args.passes c.args.slots
    (length c.args.recording.now) (search rules) (omega arith) (search rules) (search rules) (omega arith) in
    let text = search_line c.args.refusal (length c.args.codes.now) c.args.passes c.args.slots
    (length c.args.recording.now) in
    let done = line-laid c.args.out.now 0 text c.search_line-head.new.out c.search_line-head.result
    c.search_line-head.ensures.answer c.search_line-head.ensures.written (omega arith) in
    let size = ap length done.1 ∙ laid-length c.args.out.now 0 text (omega arith) in
    let behind = done.0 in
    omega arith

pub returns : goal.returns
returns c =
    let codes-few = c.requires.0 in
    let bytes-few = c.requires.1 in
    let short = search-short c.args.refusal (length c.args.codes.now) c.args.passes c.args.slots
    (length c.args.recording.now) (search rules) (omega arith) (search rules) (search rules) (omega arith) in
    let text = search_line c.args.refusal (length c.args.codes.now) c.args.passes c.args.slots
    (length c.args.recording.now) in
    let lines = code_lines c.args.codes.now in
    let place = c.put_codes-behind_codes.ensures.answer ∙ ap (λ (n : ℕ). c.search_line-head.result.next + n)
    (sym (code-lines-length c.args.codes.now)) in
    says-found c.args.out.now text lines c.args.recording.now c.search_line-head.new.out
    c.put_codes-behind_codes.new.out c.lay-end.new.out c.search_line-head.result c.lay-end.result
    c.put_codes-behind_codes.result c.args.bench
    c.requires.2 short (lines-few c.args.codes.now codes-few) bytes-few c.search_line-head.ensures.answer
    c.search_line-head.ensures.written place c.put_codes-behind_codes.ensures.written c.lay-end.ensures.answer
    c.lay-end.ensures.written
