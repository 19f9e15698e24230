-- What the call leaves at the front of the buffer is what the console says to the line.
use Rattle.text.specs.Lines.{Line}
use Rattle.packed_session.specs.TableSessionLaws.{table-front}
use Rattle.packed_console.proofs.StateAnswerer.answer.Goals as goal

pub returns : goal.returns
returns c =
    let told = c.answer-told in
    let l : Line = record { chars = c.args.line.now; fed = c.args.fed } in
    let front = table-front c.args.self.now.table c.args.self.now.store l c.args.out.now c.requires told.result
    told.ensures.answer told.new.out told.ensures.written told.auto.out told.new.t told.ensures.table in
    record { within = front.0; says = front.1; leads = front.2 }
