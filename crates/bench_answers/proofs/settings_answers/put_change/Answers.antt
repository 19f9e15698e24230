-- Field after field.
use Rattle.text.specs.Decimal.{decimal}
use Rattle.text.proofs.PuttingLaws.{puts-field, field_puts}
use Rattle.bench_answers.specs.SettingsLines.{change_line}
use Rattle.bench_answers.specs.SettingsLinesLaws.{change-short}
use Rattle.bench_answers.proofs.settings_answers.put_change.Goals as goal

pub returns : goal.returns
unfolding change_line
returns c =
    let a = c.args in (
      puts-field (decimal a.refusal) 0x20 (field_puts a.out.now a.at (decimal a.refusal) 0x20
          c.put_number-behind_refusal.new.out c.put_number-behind_refusal.result (
            c.put_number-behind_refusal.ensures.answer,
            c.put_number-behind_refusal.ensures.written,
          ))
          (field_puts c.put_number-behind_refusal.new.out c.put_number-behind_refusal.result (decimal a.version) 0x0A
          c.put_number.new.out c.put_number.result (
            c.put_number.ensures.answer,
            c.put_number.ensures.written,
          )),
      change-short a.refusal a.version c.ranges.refusal.fits c.ranges.version.fits,
    )
