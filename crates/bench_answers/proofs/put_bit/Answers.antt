-- Field after field.
use Rattle.text.specs.Decimal.{decimal}
use Rattle.bench_answers.specs.Answers.{bit_line}
use Rattle.text.proofs.PuttingLaws.{puts-field, field_puts}
use Rattle.text.specs.Putting.{flag}
use Rattle.bench_answers.proofs.put_bit.Goals as goal

pub returns : goal.returns
unfolding bit_line
returns c =
    let a = c.args in
    puts-field (decimal a.refusal) 0x20 (field_puts a.out.now a.at (decimal a.refusal) 0x20
    c.put_number-behind_refusal.new.out c.put_number-behind_refusal.result (
      c.put_number-behind_refusal.ensures.answer,
      c.put_number-behind_refusal.ensures.written,
    ))
    (field_puts c.put_number-behind_refusal.new.out c.put_number-behind_refusal.result (flag a.bit) 0x0A
    c.put_flag.new.out c.put_flag.result (c.put_flag.ensures.answer, c.put_flag.ensures.written))
