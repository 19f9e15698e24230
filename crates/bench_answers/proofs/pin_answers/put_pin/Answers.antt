-- Field after field.
use Rattle.text.specs.Decimal.{decimal}
use Rattle.text.specs.Digits.{hex_digits}
use Rattle.text.proofs.PuttingLaws.{puts-field, field_puts}
use Rattle.bench_answers.specs.PinLines.{pin_line}
use Rattle.bench_answers.specs.PinLinesLaws.{pin-short}
use Rattle.bench_answers.proofs.pin_answers.put_pin.Goals as goal

pub returns : goal.returns
unfolding pin_line
returns c =
    let a = c.args in (
      puts-field (hex_digits 16 a.code) 0x20
          (field_puts a.out.now a.at (hex_digits 16 a.code) 0x20 c.put_digits-behind_code.new.out
          c.put_digits-behind_code.result (c.put_digits-behind_code.ensures.answer, c.put_digits-behind_code.ensures.written))
          (field_puts c.put_digits-behind_code.new.out c.put_digits-behind_code.result (decimal a.pin) 0x0A
          c.put_number.new.out c.put_number.result (
            c.put_number.ensures.answer,
            c.put_number.ensures.written,
          )),
      pin-short a.code a.pin c.ranges.pin.fits,
    )
