-- The four ends of the call: the buffer is too short, the line stands whole in the piece, it ends there, and it has no
-- feed.
use Prim.Native.Nat.{ℕ, ◌+◌}
use mathlib.Core.Path.{ap, ◌∙◌}
use mathlib.Core.Bool.{true}
use mathlib.Core.List.{List}
use lib.ListN.{take}
use Rattle.naming.specs.Naming.{line_named}
use Rattle.naming.specs.declared.Named.{Named}
use Rattle.host.specs.HostNaming.{told_name, open_told}
use Rattle.host.specs.Laws.{lent-short, lent-in-place, lent-gathered, lent-open, ends-within, held-front}
use Rattle.host.specs.Laws.{held_fits, held-few}
use Rattle.host.proofs.next.Goals as goal

pub returns-then-line-lt-MOST_HELD : goal.returns-then-line-lt-MOST_HELD
returns-then-line-lt-MOST_HELD c =
    let ends = lent-short c.args.line.now c.args.held c.args.bytes.now c.args.at c.args.ended
    c.if-line-lt-MOST_HELD.true in
    record { answer = c.tell_name.ensures ∙ ap (λ (n : Named). told_name n 0) c.refuse.ensures.answer ∙ ends.0; written = ends.1 }

pub returns-then-held-eq0 : goal.returns-then-held-eq0
returns-then-held-eq0 c =
    let all = lent-in-place c.args.line.now c.args.held c.args.bytes.now c.args.at c.args.ended
    c.if-line-lt-MOST_HELD.false c.least-from.result c.line_end-end.result c.least-from.ensures c.line_end-end.ensures.answer
    c.if-end-bytes.true c.if-held-eq0.true c.tell_name-then-held-eq0.result
    (c.tell_name-then-held-eq0.ensures ∙ ap (λ (m : Named). told_name m (c.line_end-end.result + 1)) c.name_line.ensures.answer) in record { answer = all.0; written = all.1 }

pub slice_bounds-name_line-end-then-end-bytes : goal.slice_bounds-name_line-end-then-end-bytes
slice_bounds-name_line-end-then-end-bytes c =
    held_fits c.args.line.now (take c.args.held c.args.line.now) _ c.if-line-lt-MOST_HELD.false
    c.hold-count.result c.hold-count.new.line c.hold-count.ensures.answer c.hold-count.ensures.written

pub returns-then-end-bytes : goal.returns-then-end-bytes
returns-then-end-bytes c =
    let line = c.args.line.now in
    let u = take c.args.held line in
    let room = c.if-line-lt-MOST_HELD.false in
    let front = held-front line u _ room c.hold-count.result c.hold-count.new.line c.hold-count.ensures.answer
    c.hold-count.ensures.written in
    let next = c.line_end-end.result + 1 in let all = lent-gathered line c.args.held c.args.bytes.now c.args.at c.args.ended room c.least-from.result
    c.line_end-end.result c.least-from.ensures c.line_end-end.ensures.answer
    c.if-end-bytes.true c.if-held-eq0.false c.hold-count.new.line c.tell_name-then-end-bytes.result c.hold-count.ensures.written
    (c.tell_name-then-end-bytes.ensures ∙ ap (λ (m : Named). told_name m next) c.name_line-then-end-bytes.ensures.answer
    ∙ ap (λ (cs : List ℕ). told_name (line_named record { chars = cs; fed = true }) next) front) in record { answer = all.0; written = all.1 }

pub slice_bounds-hold-end-2 : goal.slice_bounds-hold-end-2
slice_bounds-hold-end-2 c =
    ends-within c.args.line.now c.args.held c.args.bytes.now c.args.at c.args.ended
    c.if-line-lt-MOST_HELD.false c.least-from.result c.line_end-end.result c.least-from.ensures c.line_end-end.ensures.answer

pub slice_bounds-tell_open-end : goal.slice_bounds-tell_open-end
slice_bounds-tell_open-end c =
    held_fits c.args.line.now (take c.args.held c.args.line.now) _ c.if-line-lt-MOST_HELD.false
    c.hold-count-2.result c.hold-count-2.new.line c.hold-count-2.ensures.answer c.hold-count-2.ensures.written

pub tell_open-requires : goal.tell_open-requires
tell_open-requires c =
    held-few c.args.line.now (take c.args.held c.args.line.now) _ c.if-line-lt-MOST_HELD.false
    c.hold-count-2.result c.hold-count-2.new.line c.hold-count-2.ensures.answer c.hold-count-2.ensures.written

pub returns : goal.returns
returns c =
    let line = c.args.line.now in
    let u = take c.args.held line in
    let room = c.if-line-lt-MOST_HELD.false in
    let front = held-front line u _ room c.hold-count-2.result c.hold-count-2.new.line c.hold-count-2.ensures.answer
    c.hold-count-2.ensures.written in let all = lent-open line c.args.held c.args.bytes.now c.args.at c.args.ended room c.least-from.result
    c.line_end-end.result c.least-from.ensures c.line_end-end.ensures.answer
    c.if-end-bytes.false c.hold-count-2.new.line c.tell_open.result c.hold-count-2.ensures.written
    (c.tell_open.ensures ∙ ap (λ (cs : List ℕ). open_told cs c.args.ended c.line_end-end.result) front) in record { answer = all.0; written = all.1 }
