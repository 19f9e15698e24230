-- What is left of the line is laid, and its report behind those before it.
use Rattle.std.proofs.Common.{ℕ, false, [], ◌∷◌, refl, ap, ◌∙◌}
use Rattle.text.specs.Laying.{lay_leaves}
use Rattle.mending.specs.LineLaws.{open_told}
use Rattle.mending.specs.declared.LineMended.{LineMended}
use Rattle.mending.proofs.texts.mend_last.Goals as goal

pub returns : goal.returns
returns c =
    let a = c.args in
    let told = open_told record { chars = a.line.now; fed = false } a.out.now a.written refl c.requires in
    let report = ap (λ (m : LineMended). m.report) c.mend_line-mended.ensures.answer ∙ told in record {
      written = c.mend_line-mended.ensures.written;
      reported = c.lay.ensures.written
          ∙ ap (λ (b : ℕ). lay_leaves a.report.now a.lines (b ∷ [])) report;
    }
