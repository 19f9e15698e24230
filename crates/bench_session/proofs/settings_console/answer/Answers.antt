-- By the room, as the definition tests it, and by what the line asks for.
use lib.ListN.{length}
use mathlib.Core.Path.{◌≡◌, ap, subst, ◌∙◌}
use borrow.Author.Tests.{le-leb, lt-leb}
use Rattle.text.specs.Lines.{Line}
use Rattle.settings.specs.declared.Store.{Store}
use Rattle.bench_requests.specs.declared.settings_requests.StoreRequest.{StoreRequest}
use Rattle.bench_requests.specs.declared.settings_requests.StoreRequest.TheVariants.{Other}
use Rattle.bench_answers.specs.declared.call_answers.Said.{Said}
use Rattle.bench_answers.specs.Whole.{room, Says}
use Rattle.bench_answers.specs.WholeLaws.{whole-said, whole-refused}
use Rattle.bench_session.specs.SettingsConsole.{responded, store_left, store_asked, told}
use Rattle.bench_session.proofs.settings_console.answer.Goals as goal

pub returns-then-out-lt-ROOM : goal.returns-then-out-lt-ROOM
returns-then-out-lt-ROOM c =
    let a = c.args in
    let line : Line = record { chars = a.line.now; fed = a.fed } in
    let none = whole-refused a.bench (responded a.bench a.store line (store_asked line)) a.out.now
    c.if-out-lt-ROOM.true in
    let kept : a.store ≡ (told a.bench a.store line a.out.now).store =
    rw (lt-leb room (length a.out.now) c.if-out-lt-ROOM.true) in record {
      answer = ap (λ (s : Said). record { said = s; store = a.store }) none.0
          ∙ ap (λ (s : Store). record { said = (told a.bench a.store line a.out.now).said; store = s }) kept;
      written = none.1;
      fits = none.2;
    }

pub returns : goal.returns
returns c =
    let a = c.args in
    let line : Line = record { chars = a.line.now; fed = a.fed } in
    let request : Other ≡ store_asked line = rw c.if-fed.false in
    let out' = c.respond-2.new.out in
    let says = subst (λ (q : StoreRequest). Says a.out.now (responded a.bench a.store line q) out'
    c.respond-2.result.said) request c.respond-2.ensures.0 in
    let done = whole-said a.bench (responded a.bench a.store line (store_asked line)) a.out.now
    c.if-out-lt-ROOM.false out' c.respond-2.result.said says in
    let left : c.respond-2.result.store ≡ (told a.bench a.store line a.out.now).store =
    rw (le-leb room (length a.out.now) c.if-out-lt-ROOM.false) (c.respond-2.ensures.1
    ∙ ap (store_left a.store) request) in record {
      answer = ap (λ (s : Said). record { said = s; store = c.respond-2.result.store }) done.0
          ∙ ap (λ (s : Store). record { said = (told a.bench a.store line a.out.now).said; store = s }) left;
      written = done.1;
      fits = done.2;
    }
