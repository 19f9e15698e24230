-- Field after field.
use Rattle.text.specs.Decimal.{decimal}
use Rattle.text.proofs.PuttingLaws.{puts-field, field_puts}
use Rattle.bench_answers.specs.PinLines.{shared_text, pins_line}
use Rattle.bench_answers.proofs.pin_answers.put_counts.Goals as goal

pub returns : goal.returns
unfolding pins_line
returns c =
    let a = c.args in
    puts-field (decimal a.refusal) 0x20 (field_puts a.out.now a.at (decimal a.refusal) 0x20
    c.put_number-behind_refusal.new.out c.put_number-behind_refusal.result (
      c.put_number-behind_refusal.ensures.answer,
      c.put_number-behind_refusal.ensures.written,
    ))
    (puts-field (decimal a.codes) 0x20 (field_puts c.put_number-behind_refusal.new.out c.put_number-behind_refusal.result
    (decimal a.codes) 0x20 c.put_number-behind_codes.new.out c.put_number-behind_codes.result
    (c.put_number-behind_codes.ensures.answer, c.put_number-behind_codes.ensures.written))
    (field_puts c.put_number-behind_codes.new.out c.put_number-behind_codes.result (shared_text a.shared) 0x0A
    c.put_shared.new.out c.put_shared.result (
      c.put_shared.ensures.answer,
      c.put_shared.ensures.written,
    )))
