-- Field after field.
use Rattle.text.specs.Decimal.{decimal}
use Rattle.text.specs.Digits.{hex_digits}
use Rattle.text.proofs.PuttingLaws.{puts-field, field_puts}
use Rattle.thermostat_session.specs.ProbeLines.{status_line}
use Rattle.thermostat_session.specs.ProbeLinesLaws.{status-short}
use Rattle.thermostat_session.proofs.answers.put_status.Goals as goal

pub returns : goal.returns
unfolding status_line
returns c =
    let a = c.args in (
      puts-field (decimal a.refusal) 0x20 (field_puts a.out.now a.at (decimal a.refusal) 0x20
          c.put_number-behind_refusal.new.out c.put_number-behind_refusal.result (
            c.put_number-behind_refusal.ensures.answer,
            c.put_number-behind_refusal.ensures.written,
          ))
          (field_puts c.put_number-behind_refusal.new.out c.put_number-behind_refusal.result (hex_digits 2 a.status) 0x0A
          c.put_digits.new.out c.put_digits.result (
            c.put_digits.ensures.answer,
            c.put_digits.ensures.written,
          )),
      status-short a.refusal a.status c.ranges.refusal.fits,
    )
