use Rattle.std.proofs.Common.{sym, ◌∙◌, eq-eqb, ne_eqb}
use Rattle.frame.proofs.ClearLaws.{clear-past, clear-here}
use Rattle.frame.proofs.clear_from.Goals as goal

pub returns-then-bytes-at : goal.returns-then-bytes-at
returns-then-bytes-at c = record { answer = sym (clear-past c.args.bytes.now c.args.place c.if-bytes-at.true) }

pub returns-then-bytes-at-eq0 : goal.returns-then-bytes-at-eq0
returns-then-bytes-at-eq0 c =
    let here = clear-here c.args.bytes.now c.args.place (λ k. (c.type_inv.bytes k).fits) c.if-bytes-at.false in
    record { answer = c.all_zero.ensures ∙ sym (rw (eq-eqb _ 0 c.if-bytes-at-eq0.true) at here) }

pub returns-else-bytes-at-eq0 : goal.returns-else-bytes-at-eq0
returns-else-bytes-at-eq0 c =
    let here = clear-here c.args.bytes.now c.args.place (λ k. (c.type_inv.bytes k).fits) c.if-bytes-at.false in
    record { answer = let no = ne_eqb _ 0 c.if-bytes-at-eq0.false in no ∙ sym (rw no at here) }
