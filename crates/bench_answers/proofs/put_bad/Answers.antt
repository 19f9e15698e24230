-- What is laid all or nothing is put where it fits.
use Rattle.bench_answers.specs.Answers.{bad_line}
use Rattle.text.proofs.PuttingLaws.{puts-laid}
use Rattle.bench_answers.proofs.put_bad.Goals as goal

pub returns : goal.returns
returns c =
    let a = c.args in
    puts-laid a.out.now a.at bad_line c.lay-w.new.out c.lay-w.result c.lay-w.ensures.answer
    c.lay-w.ensures.written
