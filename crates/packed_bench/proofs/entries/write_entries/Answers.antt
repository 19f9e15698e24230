use Rattle.std.proofs.Common.{◌+◌, ◌*◌, ◌-◌, ◌≤◌, ◌<◌, ◌≡◌, ◌∙◌, sym, ap, arith, length, take, drop, length-take}
use Rattle.std.proofs.Common.{get_or-take}
use Rattle.basic_laws.specs.Laid.{laid}
use Rattle.packed_bench.specs.Types.{InTypes}
use Rattle.bench.specs.Bench.{vacant}
use Rattle.packed_bench.specs.Table.{table_of}
use Rattle.basic_laws.specs.EachLaws.{each_more}
use Rattle.packed_bench.specs.LoopLaws.{table-turn, table-end}
use Rattle.packed_bench.proofs.entries.write_entries.Goals as goal

pub loop-place-preserved : goal.loop-place-preserved
loop-place-preserved c =
    let n = c.args.count in
    let ds = take n c.args.devices in
    let t = c.loop-place.t in
    let i = c.loop-place.place in
    let h : i < 32 = c.loop-place-test.true in
    let room : 48 * i + 48 ≤ length t = omega arith in
    let e = c.put_entry.ensures.written ∙ ap (laid t (48 * i)) c.entry_of.ensures.answer in
    let few = length-take n c.args.devices in (
      ap (λ u. laid u (48 * (i + 1)) (table_of (32 - (i + 1)) (drop (i + 1) ds))) e ∙ sym (table-turn t ds i h room)
          ∙ c.loop-place.invariant.0,
      each_more InTypes ds i vacant (λ k. rw (get_or-take n c.args.devices i vacant (omega arith))
          (c.entry_of.ensures.typed (omega arith))) c.loop-place.invariant.1,
    )

pub returns-clause-written : goal.returns-clause-written
returns-clause-written c =
    let ds = take c.args.count c.args.devices in
    let end : c.loop-place.place ≡ 32 = omega arith in
    sym (table-end c.loop-place.t ds c.loop-place.place end) ∙ c.loop-place.invariant.0
