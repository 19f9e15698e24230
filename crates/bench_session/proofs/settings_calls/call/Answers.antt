-- By the room.
use mathlib.Core.Path.{sym, ◌∙◌}
use Rattle.bench_session.specs.StoreCallsLaws.{call-refused, call-made}
use Rattle.bench_session.proofs.settings_calls.call.Goals as goal

pub returns-then-not-room : goal.returns-then-not-room
returns-then-not-room c =
    let a = c.args in let all = call-refused a.out.now a.store a.request (sym c.has_room-room.ensures.answer
    ∙ c.if-not-room.true) c.no_room.result c.no_room.ensures.answer in record { answer = all.0; written = all.1.0; fits = all.1.1 }

pub make-requires : goal.make-requires
make-requires c =
    sym c.has_room-room.ensures.answer ∙ c.if-not-room.false

pub returns : goal.returns
returns c =
    let a = c.args in
    let has = sym c.has_room-room.ensures.answer ∙ c.if-not-room.false in let all = call-made a.out.now a.store a.request has c.make.new.out c.make.result
    c.make.ensures in record { answer = all.0; written = all.1.0; fits = all.1.1 }
