-- By whose request it is: the table's, a write to a device, or one of the store alone. The answer to what the call came
-- to is said, and the call came to what its promise says.
use Prim.Native.Nat.{ℕ, ◌+◌, ◌≤◌}
use mathlib.Core.Path.{◌≡◌, ap, refl, ◌∙◌}
use mathlib.Core.List.{List}
use native.Mathlib.Omega.{arith}
use lib.ListN.{length}
use borrow.Author.Tests.{le-leb}
use Rattle.text.specs.Putting.{line_room, line_leaves}
use Rattle.bench_answers.specs.Whole.{room}
use Rattle.settings.specs.declared.Store.{Store}
use Rattle.bench_requests.specs.declared.settings_requests.StoreRequest.{StoreRequest}
use Rattle.bench_session.specs.StoreCalls.{store_says, called}
use Rattle.bench_session.specs.StoreCallsLaws.{own-request}
use Rattle.bench_session.specs.declared.settings_calls.Called.{Called}
use Rattle.bench_session.specs.SettingsConsole.{store_left}
use Rattle.packed_session.specs.TableConsole.{spoken, speaks, Tells}
use Rattle.packed_session.specs.TellsLaws.{line-tells}
use Rattle.packed_session.specs.TableSettings.{written_on, spoken_of}
use Rattle.packed_session.proofs.table_settings.respond.Goals as goal

-- a call on the store, said with room for it
called-tells : (out : List ℕ) → room ≤ length out
    → (t : List ℕ) (s : Store) (q : StoreRequest) (out' : List ℕ) (done : Called) → done ≡ called s q out
    → out' ≡ line_leaves out 0 (store_says s q)
    → Tells (speaks (store_says s q) t) out out' t done.written × (done.store ≡ store_left s q)
called-tells out wide t s q out' done answer left =
    let here : 0 + line_room ≤ length out = omega arith in
    let kept : (called s q out).store ≡ store_left s q = rw (le-leb (0 + line_room) (length out) here) in (
      line-tells (speaks (store_says s q) t) out wide out' t done.written
          (ap (λ (d : Called). d.written) answer) left
          refl,
      ap (λ (d : Called). d.store) answer ∙ kept,
    )

pub returns-in-Other : goal.returns-in-Other
unfolding spoken_of store_left
returns-in-Other c =
    let wide = le-leb room (length c.args.out.now) c.requires in
    let done = c.answer.ensures in
    rw c.in-Other.is (
      record {
        told_is = rw wide at done.answer;
        wrote-is = rw wide at done.written;
        left_is = rw wide at done.table;
      },
      refl,
    )

pub returns-in-Write : goal.returns-in-Write
unfolding spoken_of store_left
returns-in-Write c =
    let told = c.in-Write.is in
    let done = c.write.ensures in
    rw told (record { told_is = done.answer; wrote-is = done.written; left_is = done.table }, refl)

pub returns-in_default : goal.returns-in_default
unfolding spoken_of store_left
returns-in_default c =
    let a = c.args in
    let own = own-request a.request (spoken a.t.now (record { chars = a.line.now; fed = a.fed }))
    (written_on a.t.now a.store) (speaks (store_says a.store a.request) a.t.now)
    c.in_default.not-Other c.in_default.not-Write in
    rw own (called-tells a.out.now c.requires a.t.now a.store a.request c.call-done.new.out
    c.call-done.result c.call-done.ensures.answer c.call-done.ensures.written)
