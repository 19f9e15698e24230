-- Field after field.
use Rattle.text.specs.Decimal.{decimal}
use Rattle.text.specs.Lines.{line_feed, space}
use Rattle.text.proofs.PuttingLaws.{puts-field, field_puts}
use Rattle.mending.specs.Notice.{notice_line}
use Rattle.mending.specs.NoticeLaws.{notice-short}
use Rattle.mending.proofs.answers.put_fields.Goals as goal

pub returns : goal.returns
unfolding notice_line
returns c =
    let a = c.args in (
      puts-field (decimal a.number) space
          (field_puts a.out.now 0 (decimal a.number) space c.put_number-behind_number.new.out
          c.put_number-behind_number.result (c.put_number-behind_number.ensures.answer, c.put_number-behind_number.ensures.written))
          (field_puts c.put_number-behind_number.new.out c.put_number-behind_number.result (decimal a.report) line_feed
          c.put_number.new.out c.put_number.result (
            c.put_number.ensures.answer,
            c.put_number.ensures.written,
          )),
      notice-short a.number a.report c.ranges.number.fits c.ranges.report.fits,
    )
