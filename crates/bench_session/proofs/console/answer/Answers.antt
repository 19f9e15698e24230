-- By the room, as the definition tests it, and by what the line asks for.
use mathlib.Core.Path.{◌≡◌, subst}
use Rattle.text.specs.Lines.{Line}
use Rattle.bench_requests.specs.declared.Request.{Request}
use Rattle.bench_requests.specs.declared.Request.TheVariants.{Bad}
use Rattle.bench_answers.specs.Whole.{Says}
use Rattle.bench_answers.specs.WholeLaws.{whole-said, whole-refused}
use Rattle.bench_session.specs.Console.{answered, asked}
use Rattle.bench_session.proofs.console.answer.Goals as goal

pub returns-then-out-lt-ROOM : goal.returns-then-out-lt-ROOM
returns-then-out-lt-ROOM c =
    let a = c.args in
    let line : Line = record { chars = a.line.now; fed = a.fed } in
    let none = whole-refused a.bench (answered a.bench (asked line)) a.out.now c.if-out-lt-ROOM.true in
    record { answer = none.0; written = none.1; fits = none.2 }

pub returns : goal.returns
returns c =
    let a = c.args in
    let line : Line = record { chars = a.line.now; fed = a.fed } in
    let request : Bad ≡ asked line = rw c.if-fed.false in
    let out' = c.respond-2.new.out in
    let says = subst (λ (q : Request). Says a.out.now (answered a.bench q) out' c.respond-2.result)
    request c.respond-2.ensures in
    let done = whole-said a.bench (answered a.bench (asked line)) a.out.now c.if-out-lt-ROOM.false out'
    c.respond-2.result says in
    record { answer = done.0; written = done.1; fits = done.2 }
