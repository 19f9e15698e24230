-- By the room, as the definition tests it.
use Rattle.master_rules.specs.Pins.{pins_outcome}
use Rattle.bench_answers.specs.WholeLaws.{whole-said, whole-refused}
use Rattle.bench_answers.specs.PinLines.{of_pins}
use Rattle.bench_answers.proofs.pin_answers.found.Goals as goal

pub returns-then-out-lt-ROOM : goal.returns-then-out-lt-ROOM
returns-then-out-lt-ROOM c =
    let a = c.args in
    let none = whole-refused a.bench (of_pins (pins_outcome a.bench a.places)) a.out.now c.if-out-lt-ROOM.true in
    record { answer = none.0; written = none.1; fits = none.2 }

pub returns : goal.returns
returns c =
    let a = c.args in
    let done = whole-said a.bench (of_pins (pins_outcome a.bench a.places)) a.out.now c.if-out-lt-ROOM.false
    c.answer.new.out c.answer.result c.answer.ensures in
    record { answer = done.0; written = done.1; fits = done.2 }
