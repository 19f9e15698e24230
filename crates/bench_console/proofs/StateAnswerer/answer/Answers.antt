-- What the call leaves at the front of the buffer is what the console says to the line.
use Rattle.text.specs.Lines.{Line}
use Rattle.bench_session.specs.SettingsSessionLaws.{told-front}
use Rattle.bench_console.proofs.StateAnswerer.answer.Goals as goal

pub returns-clause-says : goal.returns-clause-says
returns-clause-says c =
    let told = c.answer-told in
    let l : Line = record { chars = c.args.line.now; fed = c.args.fed } in
    (told-front c.args.self.now.bench c.args.self.now.store l c.args.out.now c.requires told.result told.ensures.answer
    told.new.out told.ensures.written told.ensures.fits).0
