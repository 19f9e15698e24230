-- By the room, as the definition tests it, and by what the line asks for.
use mathlib.Core.Path.{◌≡◌, subst}
use native.Mathlib.Omega.{arith}
use borrow.Author.Tests.{lt-leb, le-leb}
use lib.ListN.{length}
use Rattle.text.specs.Lines.{Line}
use Rattle.bench_answers.specs.Whole.{room}
use Rattle.packed_session.specs.declared.table_requests.TableRequest.{TableRequest}
use Rattle.packed_session.specs.declared.table_requests.TableRequest.TheVariants.{Other}
use Rattle.packed_session.specs.TableConsole.{table_asked, TableAfter}
use Rattle.packed_session.proofs.table_console.answer.Goals as goal

pub returns-then-out-lt-ROOM : goal.returns-then-out-lt-ROOM
returns-then-out-lt-ROOM c =
    let short = lt-leb room (length c.args.out.now) c.if-out-lt-ROOM.true in
    record { answer = rw short; written = rw short; table = rw short; after = (λ wide. absurd (omega (arith, wide, c.if-out-lt-ROOM.true))) }

pub returns-then-fed : goal.returns-then-fed
returns-then-fed c =
    let l : Line = record { chars = c.args.line.now; fed = c.args.fed } in
    let request : c.parse.result ≡ table_asked l = rw c.if-fed.true c.parse.ensures.answer in
    let done = rw request at c.speak.ensures in
    let wide = le-leb room (length c.args.out.now) c.if-out-lt-ROOM.false in
    record { answer = rw wide done.0.told_is; written = rw wide done.0.wrote-is; table = rw wide done.0.left_is; after = (λ lent. done.1) }

pub returns : goal.returns
returns c =
    let l : Line = record { chars = c.args.line.now; fed = c.args.fed } in
    let request : Other ≡ table_asked l = rw c.if-fed.false in
    let done = rw request at c.speak-2.ensures.0 in
    let after = subst (λ (k : TableRequest). TableAfter k c.args.t.now l c.speak-2.new.t) request
    c.speak-2.ensures.1 in
    let wide = le-leb room (length c.args.out.now) c.if-out-lt-ROOM.false in
    record { answer = rw wide done.told_is; written = rw wide done.wrote-is; table = rw wide done.left_is; after = (λ lent. after) }
