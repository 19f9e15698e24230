-- Field after field.
use Rattle.text.specs.Decimal.{decimal}
use Rattle.text.specs.Digits.{hex_of}
use Rattle.bench_answers.specs.Answers.{busy_digit, settings_digits, record_line}
use Rattle.text.proofs.PuttingLaws.{puts-field, field_puts}
use Rattle.text.specs.Putting.{flag}
use Rattle.bench_answers.proofs.put_record.Goals as goal

pub returns : goal.returns
unfolding record_line
returns c =
    let a = c.args in
    puts-field (decimal a.refusal) 0x20 (field_puts a.out.now a.at (decimal a.refusal) 0x20
    c.put_number-behind_refusal.new.out c.put_number-behind_refusal.result (
      c.put_number-behind_refusal.ensures.answer,
      c.put_number-behind_refusal.ensures.written,
    ))
    (puts-field (hex_of a.pad) 0x20 (field_puts c.put_number-behind_refusal.new.out c.put_number-behind_refusal.result
    (hex_of a.pad) 0x20 c.put_bytes-behind_pad.new.out c.put_bytes-behind_pad.result (
      c.put_bytes-behind_pad.ensures.answer,
      c.put_bytes-behind_pad.ensures.written,
    ))
    (puts-field (settings_digits a.eeprom) 0x20
    (field_puts c.put_bytes-behind_pad.new.out c.put_bytes-behind_pad.result (settings_digits a.eeprom) 0x20
    c.put_bytes-behind_settings.new.out c.put_bytes-behind_settings.result (
      c.put_bytes-behind_settings.ensures.answer,
      c.put_bytes-behind_settings.ensures.written,
    ))
    (puts-field (flag a.alarm) 0x20 (field_puts c.put_bytes-behind_settings.new.out c.put_bytes-behind_settings.result
    (flag a.alarm) 0x20 c.put_flag-behind_alarm.new.out c.put_flag-behind_alarm.result (
      c.put_flag-behind_alarm.ensures.answer,
      c.put_flag-behind_alarm.ensures.written,
    )) (field_puts c.put_flag-behind_alarm.new.out c.put_flag-behind_alarm.result
    (busy_digit a.activity) 0x0A c.put_busy.new.out c.put_busy.result
    (c.put_busy.ensures.answer, c.put_busy.ensures.written)))))
