-- What the call leaves at the front of the buffer is what the console says to the line.
use Rattle.text.specs.Lines.{Line}
use Rattle.thermostat_session.specs.ProbeSessionLaws.{said-front}
use Rattle.thermostat_console.proofs.StateAnswerer.answer.Goals as goal

pub returns-clause-says : goal.returns-clause-says
returns-clause-says c =
    let said = c.answer-said in
    let l : Line = record { chars = c.args.line.now; fed = c.args.fed } in
    (said-front c.args.self.now.probe l c.args.out.now c.requires said.result said.ensures.answer said.new.out
    said.ensures.written said.ensures.fits).0
