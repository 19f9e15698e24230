use Rattle.std.proofs.Common.{ℕ, ◌≡◌, ◌∙◌, sym, ap, arith, length-set, take}
use Rattle.packed_bench.specs.Packed.{fields_of}
use Rattle.packed_bench.specs.LoopLaws.{read-turn, read-stop, read-end}
use Rattle.packed_bench.proofs.entries.read_entries.Goals as goal

pub returns-then-device-eq0-clause-answer : goal.returns-then-device-eq0-clause-answer
returns-then-device-eq0-clause-answer c =
    let is = c.fields-device.ensures.answer ∙ ap fields_of c.entry_at.ensures.answer in
    let l = c.loop-place in
    sym (l.invariant.1
    ∙ read-stop c.args.t.now l.devices l.place c.fields-device.result is c.loop-place-test.true c.if-device-eq0.true)

pub loop-place-preserved : goal.loop-place-preserved
loop-place-preserved c =
    let is = c.fields-device.ensures.answer ∙ ap fields_of c.entry_at.ensures.answer in
    let l = c.loop-place in (
      length-set _ _ _ ∙ l.invariant.0,
      l.invariant.1 ∙ read-turn c.args.t.now l.devices l.place c.fields-device.result is c.loop-place-test.true
          l.invariant.0 c.if-device-eq0.false,
    )

pub returns-clause-answer : goal.returns-clause-answer
returns-clause-answer c =
    let devices = c.loop-place.devices in
    let end : c.loop-place.place ≡ 32 = omega arith in
    ap (λ (n : ℕ). take n devices) (sym end)
    ∙ sym (c.loop-place.invariant.1 ∙ read-end c.args.t.now devices c.loop-place.place end)
