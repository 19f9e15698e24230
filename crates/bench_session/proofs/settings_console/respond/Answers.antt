-- By whose request it is: the bench's, a write to a device, or one of the store alone. The answer to what the call came
-- to is said, and the call came to what its promise says.
use Prim.Native.Nat.{ℕ, ◌+◌, ◌≤◌}
use mathlib.Core.Path.{◌≡◌, ap, refl, subst, ◌∙◌}
use mathlib.Core.List.{List}
use native.Mathlib.Omega.{arith}
use borrow.Author.Tests.{le-leb}
use lib.ListN.{length}
use Rattle.text.specs.Putting.{line_room, line_leaves}
use Rattle.text.specs.Lines.{Line}
use Rattle.bench.specs.declared.Bench.{Bench}
use Rattle.master_rules.specs.declared.Access.{Access}
use Rattle.bench_answers.specs.Said.{says, line_said, of_access}
use Rattle.bench_answers.specs.declared.call_answers.Said.{Said}
use Rattle.bench_answers.specs.Whole.{room, Says}
use Rattle.bench_answers.specs.WholeLaws.{whole_says, line-says}
use Rattle.bench_session.specs.Console.{answered, asked}
use Rattle.settings.specs.Written.{settings_written}
use Rattle.settings.specs.declared.Store.{Store}
use Rattle.bench_requests.specs.declared.settings_requests.StoreRequest.{StoreRequest}
use Rattle.bench_session.specs.StoreCalls.{store_says, called}
use Rattle.bench_session.specs.StoreCallsLaws.{own-request}
use Rattle.bench_session.specs.declared.settings_calls.Called.{Called}
use Rattle.bench_session.specs.SettingsConsole.{responded, store_left}
use Rattle.bench_session.proofs.settings_console.respond.Goals as goal

-- a call on the store, said with room for it
called-says : (out : List ℕ) → room ≤ length out
    → (b : Bench) (s : Store) (q : StoreRequest) (out' : List ℕ) (done : Called) (said : Said) → done ≡ called s q out
    → out' ≡ line_leaves out 0 (store_says s q)
    → done.written.next ≤ line_room → said ≡ record {
      refusal = done.written.refusal;
      count = done.written.next;
      bench = b;
    } → Says out (says (store_says s q) b) out' said × (done.store ≡ store_left s q)
called-says out wide b s q out' done said answer left short told =
    let here : 0 + line_room ≤ length out = omega arith in
    let line : said ≡ line_said (says (store_says s q) b) out =
    told ∙ ap (λ (d : Called). record { refusal = d.written.refusal; count = d.written.next; bench = b })
    answer in
    let few : said.count ≤ line_room = rw (ap (λ (x : Said). x.count) told) short in
    let kept : (called s q out).store ≡ store_left s q = rw (le-leb (0 + line_room) (length out) here) in
    (line-says out wide (says (store_says s q) b) out' said line left few, ap (λ (d : Called). d.store) answer ∙ kept)

pub returns-in-Other : goal.returns-in-Other
unfolding responded store_left
returns-in-Other c =
    let told = c.in-Other.is in
    rw told (
      whole_says c.args.out.now c.requires _ c.answer.new.out c.answer.result
          c.args.bench c.answer.ensures.answer c.answer.ensures.written c.answer.ensures.fits,
      refl,
    )

pub returns-in-Write : goal.returns-in-Write
unfolding responded store_left
returns-in-Write c =
    let told = c.in-Write.is in
    let said = line-says c.args.out.now c.requires (of_access c.write.result)
    c.access.new.out c.access.result c.access.ensures.answer c.access.ensures.written
    c.access.ensures.fits in
    rw told (
      subst (λ (r : Access). Says c.args.out.now (of_access r) c.access.new.out
          c.access.result) c.write.ensures.answer said,
      refl,
    )

pub returns-in_default : goal.returns-in_default
unfolding responded store_left
returns-in_default c =
    let a = c.args in
    let line : Line = record { chars = a.line.now; fed = a.fed } in
    let own = own-request a.request (answered a.bench (asked line))
    (λ code. of_access (settings_written a.store a.bench code))
    (says (store_says a.store a.request) a.bench)
    c.in_default.not-Other c.in_default.not-Write in
    rw own (called-says a.out.now c.requires a.bench a.store a.request c.call-done.new.out
    c.call-done.result c.say.result c.call-done.ensures.answer c.call-done.ensures.written
    c.call-done.ensures.fits c.say.ensures.answer)
