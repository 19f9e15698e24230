-- The buffer has room for every answer, so that what stands at its front is the answer to the input.
use Rattle.std.proofs.Common.{le_trans}
use Rattle.reading_programs.specs.Answers.{lines_answer}
use Rattle.reading_programs.specs.AnswersLaws.{answer-front}
use Rattle.csv_to_readings.proofs.ToLinesConversion.convert.Goals as goal

pub returns-clause-front : goal.returns-clause-front
returns-clause-front c =
    let made = c.to_lines in
    answer-front c.args.text.now (lines_answer c.args.input.now) (le_trans made.ensures.short c.requires) made.result made.new.out
    made.ensures.answer made.ensures.written
