-- The word and the number behind it are the text.
use mathlib.Core.Path.{ap, ◌∙◌}
use Rattle.text.specs.declared.laying.Written.{Written}
use Rattle.naming.specs.PrintingLaws.{refused-laid, refused-next}
use Rattle.naming.proofs.printing.put_refused.Goals as goal

pub returns : goal.returns
returns c =
    let small = c.ranges.refusal.fits in
    let s = c.args.s.now in record {
      answer = ap (λ (w : Written). w.next) c.lay_decimal-number.ensures.answer
          ∙ rw c.lay.ensures.written (refused-next c.args.refusal small s c.requires);
      written = c.lay_decimal-number.ensures.written ∙ rw c.lay.ensures.written (refused-laid c.args.refusal small s c.requires);
    }
