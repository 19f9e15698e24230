-- As many digits as the number has.
use Rattle.std.proofs.Common.{ap, ◌∙◌}
use Rattle.text.specs.DecimalLaws.{decimal-digits}
use Rattle.text.specs.Laying.{lay_answer, lay_leaves}
use Rattle.text.proofs.laying.lay_decimal.Goals as goal

pub returns : goal.returns
returns c =
    let laid = c.lay_digits.ensures in
    let plain = decimal-digits c.args.number c.decimal_length-count.result c.decimal_length-count.ensures.answer in
    record {
      answer = laid.answer ∙ ap (lay_answer c.args.out.now c.args.at) plain;
      written = laid.written ∙ ap (lay_leaves c.args.out.now c.args.at) plain;
    }
