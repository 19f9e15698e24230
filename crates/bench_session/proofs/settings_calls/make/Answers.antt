-- Request by request: the answer to what the call came to is told, and the call came to what its promise says.
use mathlib.Core.Path.{sym, subst}
use mathlib.Core.List.{[]}
use Rattle.bench_answers.specs.Answers.{refusal_line}
use Rattle.settings.specs.declared.ChangeDone.{ChangeDone}
use Rattle.settings.specs.declared.Current.{Current}
use Rattle.settings.specs.declared.StoreAfter.{StoreAfter}
use Rattle.bench_answers.specs.SettingsLines.{current_line, change_line}
use Rattle.bench_session.specs.StoreCalls.{store_left, Calls}
use Rattle.bench_session.specs.StoreCallsLaws.{nothing-calls}
use Rattle.bench_session.proofs.settings_calls.make.Goals as goal

pub returns-in-Other : goal.returns-in-Other
unfolding store_left
returns-in-Other c =
    let d = c.args.out.now in
    rw c.in-Other.is (subst (Calls d [] c.args.store d) (sym c.tell_nothing.ensures)
    (nothing-calls d c.args.store c.requires))

pub returns-in-Add : goal.returns-in-Add
unfolding store_left
returns-in-Add c =
    let told = c.in-Add.is in
    let d = c.args.out.now in
    rw told (subst (λ (r : StoreAfter). Calls d (refusal_line r.refusal) r.store c.tell_refusal.new.out
    c.tell_refusal.result) c.add.ensures.answer c.tell_refusal.ensures)

pub returns-in-Remove : goal.returns-in-Remove
unfolding store_left
returns-in-Remove c =
    let told = c.in-Remove.is in
    let d = c.args.out.now in
    rw told (subst (λ (r : StoreAfter). Calls d (refusal_line r.refusal) r.store c.tell_refusal-in-Remove.new.out
    c.tell_refusal-in-Remove.result) c.remove.ensures.answer c.tell_refusal-in-Remove.ensures)

pub returns-in-Read : goal.returns-in-Read
unfolding store_left
returns-in-Read c =
    let told = c.in-Read.is in
    let d = c.args.out.now in
    rw told (subst (λ (r : Current). Calls d (current_line r) c.args.store
    c.tell_current.new.out c.tell_current.result) c.read.ensures.answer
    c.tell_current.ensures)

pub returns-in-Change : goal.returns-in-Change
unfolding store_left
returns-in-Change c =
    let told = c.in-Change.is in
    let d = c.args.out.now in
    rw told (subst (λ (r : ChangeDone). Calls d (change_line r.refusal r.version) r.store
    c.tell_change.new.out c.tell_change.result) c.change.ensures.answer c.tell_change.ensures)

pub returns-in-Write : goal.returns-in-Write
unfolding store_left
returns-in-Write c =
    let d = c.args.out.now in
    rw c.in-Write.is (subst (Calls d [] c.args.store d) (sym c.tell_nothing-in-Write.ensures)
    (nothing-calls d c.args.store c.requires))
