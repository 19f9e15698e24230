-- Request by request: the answer to what the call came to is said, and the call came to what its promise says.
use mathlib.Core.Path.{subst}
use Rattle.bench.specs.declared.Changed.{Changed}
use Rattle.bench.specs.declared.Looked.{Looked}
use Rattle.bench.specs.declared.ResetDone.{ResetDone}
use Rattle.bench.specs.declared.Slotted.{Slotted}
use Rattle.master_rules.specs.declared.Access.{Access}
use Rattle.bench_answers.specs.Answers.{bad_line, show_line}
use Rattle.why.specs.declared.rules.Why.{Why}
use Rattle.bench_answers.specs.WhyLine.{why_line}
use Rattle.bench_answers.specs.Said.{says, of_change, of_reset, of_slot, of_access}
use Rattle.bench_answers.specs.Whole.{Says}
use Rattle.bench_answers.specs.WholeLaws.{whole_says, line-says}
use Rattle.bench_session.specs.Console.{answered}
use Rattle.bench_session.proofs.console.respond.Goals as goal

pub returns-in-Bad : goal.returns-in-Bad
unfolding answered
returns-in-Bad c =
    let told = c.in-Bad.is in
    rw told (line-says c.args.out.now c.requires (says bad_line c.args.bench) c.bad.new.out
    c.bad.result c.bad.ensures.answer c.bad.ensures.written c.bad.ensures.fits)

pub returns-in-Add : goal.returns-in-Add
unfolding answered
returns-in-Add c =
    let told = c.in-Add.is in
    let said = line-says c.args.out.now c.requires (of_change c.add.result) c.change.new.out
    c.change.result c.change.ensures.answer c.change.ensures.written c.change.ensures.fits in
    rw told (subst (λ (r : Changed). Says c.args.out.now (of_change r) c.change.new.out
    c.change.result) c.add.ensures.answer said)

pub returns-in-Reset : goal.returns-in-Reset
unfolding answered
returns-in-Reset c =
    let told = c.in-Reset.is in
    let said = line-says c.args.out.now c.requires (of_reset c.reset.result) c.reset-in-Reset.new.out
    c.reset-in-Reset.result c.reset-in-Reset.ensures.answer c.reset-in-Reset.ensures.written c.reset-in-Reset.ensures.fits in
    rw told (subst (λ (r : ResetDone). Says c.args.out.now (of_reset r) c.reset-in-Reset.new.out
    c.reset-in-Reset.result) c.reset.ensures.answer said)

pub returns-in-Slot : goal.returns-in-Slot
unfolding answered
returns-in-Slot c =
    let told = c.in-Slot.is in
    let said = line-says c.args.out.now c.requires (of_slot c.slot.result) c.slot-in-Slot.new.out
    c.slot-in-Slot.result c.slot-in-Slot.ensures.answer c.slot-in-Slot.ensures.written c.slot-in-Slot.ensures.fits in
    rw told (subst (λ (r : Slotted). Says c.args.out.now (of_slot r) c.slot-in-Slot.new.out
    c.slot-in-Slot.result) c.slot.ensures.answer said)

pub returns-in-Converted : goal.returns-in-Converted
unfolding answered
returns-in-Converted c =
    let told = c.in-Converted.is in
    let said = line-says c.args.out.now c.requires (of_change c.finish_conversion.result)
    c.change-in-Converted.new.out c.change-in-Converted.result c.change-in-Converted.ensures.answer c.change-in-Converted.ensures.written
    c.change-in-Converted.ensures.fits in
    rw told (subst (λ (r : Changed). Says c.args.out.now (of_change r) c.change-in-Converted.new.out
    c.change-in-Converted.result) c.finish_conversion.ensures.answer said)

pub returns-in-Copied : goal.returns-in-Copied
unfolding answered
returns-in-Copied c =
    let told = c.in-Copied.is in
    let said = line-says c.args.out.now c.requires (of_change c.finish_copy.result)
    c.change-in-Copied.new.out c.change-in-Copied.result c.change-in-Copied.ensures.answer c.change-in-Copied.ensures.written
    c.change-in-Copied.ensures.fits in
    rw told (subst (λ (r : Changed). Says c.args.out.now (of_change r) c.change-in-Copied.new.out
    c.change-in-Copied.result) c.finish_copy.ensures.answer said)

pub returns-in-Cycle : goal.returns-in-Cycle
unfolding answered
returns-in-Cycle c =
    let told = c.in-Cycle.is in
    let said = line-says c.args.out.now c.requires (of_change c.power_cycle.result)
    c.change-in-Cycle.new.out c.change-in-Cycle.result c.change-in-Cycle.ensures.answer c.change-in-Cycle.ensures.written
    c.change-in-Cycle.ensures.fits in
    rw told (subst (λ (r : Changed). Says c.args.out.now (of_change r) c.change-in-Cycle.new.out
    c.change-in-Cycle.result) c.power_cycle.ensures.answer said)

pub returns-in-Search : goal.returns-in-Search
unfolding answered
returns-in-Search c =
    let told = c.in-Search.is in
    rw told (whole_says c.args.out.now c.requires _ c.found.new.out c.found.result
    c.args.bench c.found.ensures.answer c.found.ensures.written c.found.ensures.fits)

pub returns-in-Alarm : goal.returns-in-Alarm
unfolding answered
returns-in-Alarm c =
    let told = c.in-Alarm.is in
    rw told (whole_says c.args.out.now c.requires _ c.found-in-Alarm.new.out c.found-in-Alarm.result
    c.args.bench c.found-in-Alarm.ensures.answer c.found-in-Alarm.ensures.written c.found-in-Alarm.ensures.fits)

pub returns-in-Read : goal.returns-in-Read
unfolding answered
returns-in-Read c =
    let told = c.in-Read.is in
    let said = line-says c.args.out.now c.requires (of_access c.read_at.result)
    c.access.new.out c.access.result c.access.ensures.answer c.access.ensures.written
    c.access.ensures.fits in
    rw told (subst (λ (r : Access). Says c.args.out.now (of_access r) c.access.new.out
    c.access.result) c.read_at.ensures.answer said)

pub returns-in-Write : goal.returns-in-Write
unfolding answered
returns-in-Write c =
    let told = c.in-Write.is in
    let said = line-says c.args.out.now c.requires (of_access c.write_at.result)
    c.access-in-Write.new.out c.access-in-Write.result c.access-in-Write.ensures.answer c.access-in-Write.ensures.written
    c.access-in-Write.ensures.fits in
    rw told (subst (λ (r : Access). Says c.args.out.now (of_access r) c.access-in-Write.new.out
    c.access-in-Write.result) c.write_at.ensures.answer said)

pub returns-in-Show : goal.returns-in-Show
unfolding answered
returns-in-Show c =
    let told = c.in-Show.is in
    let said = line-says c.args.out.now c.requires
    (says (show_line c.look.result) c.args.bench) c.device.new.out c.device.result
    c.device.ensures.answer c.device.ensures.written c.device.ensures.fits in
    rw told (subst (λ (r : Looked). Says c.args.out.now (says (show_line r) c.args.bench)
    c.device.new.out c.device.result) c.look.ensures.answer said)

pub returns-in-Why : goal.returns-in-Why
unfolding answered
returns-in-Why c =
    let told = c.in-Why.is in
    let said = line-says c.args.out.now c.requires (says (why_line c.why.result) c.args.bench)
    c.why-in-Why.new.out c.why-in-Why.result c.why-in-Why.ensures.answer c.why-in-Why.ensures.written
    c.why-in-Why.ensures.fits in
    rw told (subst (λ (r : Why). Says c.args.out.now (says (why_line r) c.args.bench)
    c.why-in-Why.new.out c.why-in-Why.result) c.why.ensures.answer said)

pub returns-in-Pins : goal.returns-in-Pins
unfolding answered
returns-in-Pins c =
    let told = c.in-Pins.is in
    rw told (whole_says c.args.out.now c.requires _ c.found-in-Pins.new.out c.found-in-Pins.result
    c.args.bench c.found-in-Pins.ensures.answer c.found-in-Pins.ensures.written c.found-in-Pins.ensures.fits)
