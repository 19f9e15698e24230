-- Field after field.
use Rattle.text.specs.Decimal.{decimal}
use Rattle.bench_answers.specs.Answers.{search_line}
use Rattle.text.proofs.PuttingLaws.{puts-field, field_puts}
use Rattle.bench_answers.proofs.put_counts.Goals as goal

pub returns : goal.returns
unfolding search_line
returns c =
    let a = c.args in
    puts-field (decimal a.refusal) 0x20 (field_puts a.out.now a.at (decimal a.refusal) 0x20
    c.put_number-behind_refusal.new.out c.put_number-behind_refusal.result (
      c.put_number-behind_refusal.ensures.answer,
      c.put_number-behind_refusal.ensures.written,
    ))
    (puts-field (decimal a.codes) 0x20 (field_puts c.put_number-behind_refusal.new.out c.put_number-behind_refusal.result
    (decimal a.codes) 0x20 c.put_number-behind_codes.new.out c.put_number-behind_codes.result
    (c.put_number-behind_codes.ensures.answer, c.put_number-behind_codes.ensures.written))
    (puts-field (decimal a.passes) 0x20 (field_puts c.put_number-behind_codes.new.out c.put_number-behind_codes.result
    (decimal a.passes) 0x20 c.put_number-behind_passes.new.out c.put_number-behind_passes.result
    (c.put_number-behind_passes.ensures.answer, c.put_number-behind_passes.ensures.written))
    (puts-field (decimal a.slots) 0x20 (field_puts c.put_number-behind_passes.new.out c.put_number-behind_passes.result
    (decimal a.slots) 0x20 c.put_number-behind_slots.new.out c.put_number-behind_slots.result
    (c.put_number-behind_slots.ensures.answer, c.put_number-behind_slots.ensures.written))
    (field_puts c.put_number-behind_slots.new.out c.put_number-behind_slots.result (decimal a.bytes) 0x0A
    c.put_number.new.out c.put_number.result (
      c.put_number.ensures.answer,
      c.put_number.ensures.written,
    )))))
