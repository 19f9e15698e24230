-- By the room, as the definition tests it, and by what the line asks for.
use lib.ListN.{length}
use mathlib.Core.Path.{◌≡◌, ap, ◌∙◌}
use borrow.Author.Tests.{lt-leb, le-leb}
use Rattle.text.specs.Lines.{Line}
use Rattle.bench_answers.specs.Whole.{room}
use Rattle.bench_requests.specs.declared.settings_requests.StoreRequest.TheVariants.{Other}
use Rattle.bench_session.specs.SettingsConsole.{store_asked, store_left}
use Rattle.packed_session.specs.TableConsole.{telling}
use Rattle.packed_session.specs.TableSettings.{spoken_of}
use Rattle.packed_session.specs.TableSettingsLaws.{told-parts}
use Rattle.packed_session.proofs.table_settings.answer.Goals as goal

pub returns-then-out-lt-ROOM : goal.returns-then-out-lt-ROOM
returns-then-out-lt-ROOM c =
    let short = lt-leb room (length c.args.out.now) c.if-out-lt-ROOM.true in
    record { answer = rw short; written = rw short; table = rw short }

pub returns-then-fed : goal.returns-then-fed
returns-then-fed c =
    let l : Line = record { chars = c.args.line.now; fed = c.args.fed } in
    let request : c.parse.result ≡ store_asked l = rw c.if-fed.true c.parse.ensures.answer in
    let done = rw request at c.respond.ensures.0 in
    let left = c.respond.ensures.1 ∙ ap (store_left c.args.store) request in
    let wide = le-leb room (length c.args.out.now) c.if-out-lt-ROOM.false in record {
      answer = rw wide (told-parts _ (telling (spoken_of c.args.t.now c.args.store l (store_asked l)).text)
          _ _ done.told_is left);
      written = rw wide done.wrote-is;
      table = rw wide done.left_is;
    }

pub returns : goal.returns
returns c =
    let l : Line = record { chars = c.args.line.now; fed = c.args.fed } in
    let request : Other ≡ store_asked l = rw c.if-fed.false in
    let done = rw request at c.respond-2.ensures.0 in
    let left = c.respond-2.ensures.1 ∙ ap (store_left c.args.store) request in
    let wide = le-leb room (length c.args.out.now) c.if-out-lt-ROOM.false in record {
      answer = rw wide (told-parts _ (telling (spoken_of c.args.t.now c.args.store l (store_asked l)).text)
          _ _ done.told_is left);
      written = rw wide done.wrote-is;
      table = rw wide done.left_is;
    }
