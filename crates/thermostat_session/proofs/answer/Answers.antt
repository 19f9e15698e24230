-- By the room, as the definition tests it, and by what the line asks for.
use mathlib.Core.Path.{ap, ◌∙◌}
use Rattle.text.specs.Lines.{Line}
use Rattle.thermostat_session.specs.ProbeConsole.{probe_responded}
use Rattle.thermostat_session.specs.ProbeConsoleLaws.{said-without, said-with}
use Rattle.thermostat_session.proofs.answer.Goals as goal

pub returns-then-out-lt-LINE_ROOM : goal.returns-then-out-lt-LINE_ROOM
returns-then-out-lt-LINE_ROOM c =
    let a = c.args in
    let none = said-without a.probe (record { chars = a.line.now; fed = a.fed }) a.out.now
    c.if-out-lt-LINE_ROOM.true in
    record { answer = none.0; written = none.1; fits = none.2 }

pub returns : goal.returns
returns c =
    let a = c.args in
    let line : Line = record { chars = a.line.now; fed = a.fed } in
    let answers = c.respond-done.ensures.answer ∙ ap (probe_responded a.probe) c.asked.ensures in
    let said = said-with a.probe line a.out.now c.if-out-lt-LINE_ROOM.false c.respond-done.result answers
    c.write-w.result c.write-w.ensures.answer _ c.write-w.ensures.written c.write-w.ensures.fits in
    record { answer = said.0; written = said.1; fits = said.2 }
