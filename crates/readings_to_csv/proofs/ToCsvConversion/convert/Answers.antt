-- The buffer has room for every answer, so that what stands at its front is the answer to the input.
use Rattle.std.proofs.Common.{le_trans}
use Rattle.reading_programs.specs.Answers.{csv_answer}
use Rattle.reading_programs.specs.AnswersLaws.{answer-front}
use Rattle.readings_to_csv.proofs.ToCsvConversion.convert.Goals as goal

pub returns-clause-front : goal.returns-clause-front
returns-clause-front c =
    let made = c.to_csv in
    answer-front c.args.text.now (csv_answer c.args.input.now) (le_trans made.ensures.short c.requires) made.result made.new.out
    made.ensures.answer made.ensures.written
