-- The buffer has room for every answer, so that what stands at its front is the answer to the input.
use Rattle.std.proofs.Common.{le_trans}
use Rattle.readings.specs.Csv.{csv_text}
use Rattle.reading_programs.specs.Answers.{rows_told}
use Rattle.reading_programs.specs.Latest.{recording_read}
use Rattle.reading_programs.specs.AnswersLaws.{answer-front}
use Rattle.recording_to_csv.proofs.ToCsvConversion.convert.Goals as goal

pub returns-clause-front : goal.returns-clause-front
returns-clause-front c =
    let made = c.to_csv in
    answer-front c.args.text.now (rows_told csv_text (recording_read c.args.recording.now)) (le_trans made.ensures.short c.requires) made.result made.new.out
    made.ensures.answer made.ensures.written
