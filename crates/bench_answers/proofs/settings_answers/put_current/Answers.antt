-- Field after field.
use Rattle.text.specs.Decimal.{decimal}
use Rattle.text.specs.Digits.{hex_digits}
use Rattle.text.proofs.PuttingLaws.{puts-field, field_puts}
use Rattle.bench_answers.specs.SettingsLines.{settings_fields}
use Rattle.bench_answers.specs.SettingsLinesLaws.{settings-fields-short}
use Rattle.bench_answers.proofs.settings_answers.put_current.Goals as goal

pub returns : goal.returns
unfolding settings_fields
returns c =
    let a = c.args in (
      puts-field (decimal a.refusal) 0x20 (field_puts a.out.now a.at (decimal a.refusal) 0x20
          c.put_number-behind_refusal.new.out c.put_number-behind_refusal.result (
            c.put_number-behind_refusal.ensures.answer,
            c.put_number-behind_refusal.ensures.written,
          ))
          (puts-field (hex_digits 2 a.high) 0x20
          (field_puts c.put_number-behind_refusal.new.out c.put_number-behind_refusal.result (hex_digits 2 a.high) 0x20
          c.put_digits-behind_high.new.out c.put_digits-behind_high.result (
            c.put_digits-behind_high.ensures.answer,
            c.put_digits-behind_high.ensures.written,
          ))
          (puts-field (hex_digits 2 a.low) 0x20
          (field_puts c.put_digits-behind_high.new.out c.put_digits-behind_high.result (hex_digits 2 a.low) 0x20
          c.put_digits-behind_low.new.out c.put_digits-behind_low.result (
            c.put_digits-behind_low.ensures.answer,
            c.put_digits-behind_low.ensures.written,
          ))
          (puts-field (hex_digits 2 a.configuration) 0x20
          (field_puts c.put_digits-behind_low.new.out c.put_digits-behind_low.result (hex_digits 2 a.configuration) 0x20
          c.put_digits-behind_configuration.new.out c.put_digits-behind_configuration.result
          (c.put_digits-behind_configuration.ensures.answer, c.put_digits-behind_configuration.ensures.written))
          (field_puts c.put_digits-behind_configuration.new.out c.put_digits-behind_configuration.result (decimal a.version)
          0x0A c.put_number.new.out c.put_number.result (
            c.put_number.ensures.answer,
            c.put_number.ensures.written,
          ))))),
      settings-fields-short a.refusal a.high a.low a.configuration a.version c.ranges.refusal.fits
          c.ranges.version.fits,
    )
