-- By the length and the feed, and then by how the line reads once mended.
use Rattle.std.proofs.Common.{◌∙◌}
use Rattle.text.specs.Lines.{Line}
use Rattle.refusals.specs.Refusals.{not_hex, malformed}
use Rattle.mending.specs.LineLaws.{fate-long, fate-open, line-dropped}
use Rattle.mending.proofs.mend_line.Goals as goal

pub returns-then-line-gt-LONGEST : goal.returns-then-line-gt-LONGEST
returns-then-line-gt-LONGEST c =
    let a = c.args in
    let l : Line = record { chars = a.line.now; fed = a.fed } in
    let e = line-dropped l a.out.now a.at malformed (fate-long l c.if-line-gt-LONGEST.true) in
    record { answer = c.drop_line.ensures.answer ∙ e.0; written = c.drop_line.ensures.written ∙ e.1 }

pub returns-then-not-fed : goal.returns-then-not-fed
returns-then-not-fed c =
    let a = c.args in
    let l : Line = record { chars = a.line.now; fed = a.fed } in
    let e = line-dropped l a.out.now a.at not_hex
    (fate-open l c.if-line-gt-LONGEST.false (c.if-not-fed.true)) in
    record { answer = c.drop_line-then-not-fed.ensures.answer ∙ e.0; written = c.drop_line-then-not-fed.ensures.written ∙ e.1 }
