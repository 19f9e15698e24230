-- Too few bytes stay as they are, and so do all where the records make no bench; else the table is written.
use Prim.Native.Nat.{ℕ}
use mathlib.Core.List.{List}
use mathlib.Core.Path.{◌≡◌, ◌∙◌, sym, ap}
use native.Mathlib.Omega.{arith}
use lib.ListN.{take}
use Rattle.refusals.specs.Refusals.{accepted, no_room}
use Rattle.basic_laws.specs.Laid.{laid}
use Rattle.device.specs.declared.Device.{Device}
use Rattle.bench.specs.Bench.{live}
use Rattle.bench.specs.Records.{made_of}
use Rattle.bench.specs.declared.Made.{Made}
use Rattle.packed_bench.specs.Table.{table_of, unpacked}
use Rattle.packed_bench.specs.TableLaws.{written_over_lem, pack-short, pack-refused, pack-done, packed-back}
use Rattle.packed_bench.proofs.table.pack.Goals as goal
use Rattle.packed_bench.proofs.table.pack.Goals.{After-of_records-made}

-- the records that are judged are those of the bench
module _ (c : After-of_records-made) where
  judged : c.of_records-made.result.refusal ≡ (let b = c.args.bench in
      (made_of b.devices b.count).refusal)
  judged =
      let b = c.args.bench in
      let own : made_of c.records_of-devices.result c.count_of-count.result ≡ made_of b.devices b.count =
      ap (λ (k : ℕ). made_of c.records_of-devices.result k) c.count_of-count.ensures.answer
      ∙ ap (λ (ds : List Device). made_of ds b.count) c.records_of-devices.ensures.answer in
      ap (λ (m : Made). m.refusal) (c.of_records-made.ensures.answer ∙ own)

pub returns-then-t-lt-TABLE_BYTES : goal.returns-then-t-lt-TABLE_BYTES
returns-then-t-lt-TABLE_BYTES c =
    let a = c.args in
    let e = pack-short a.bench a.t.now c.if-t-lt-TABLE_BYTES.true in
    record { answer = e.0; written = e.1; back = λ (z : no_room ≡ accepted). absurd (omega (arith, z)) }

pub returns-then-refusal-ne-ACCEPTED : goal.returns-then-refusal-ne-ACCEPTED
returns-then-refusal-ne-ACCEPTED c =
    let a = c.args in
    let e = pack-refused a.bench a.t.now c.if-t-lt-TABLE_BYTES.false c.of_records-made.result.refusal
    (judged (goal.at.returns-then-refusal-ne-ACCEPTED c).After-of_records-made) c.if-refusal-ne-ACCEPTED.true in
    record { answer = e.0; written = e.1; back = λ z. absurd (c.if-refusal-ne-ACCEPTED.true z) }

pub returns : goal.returns
returns c =
    let a = c.args in
    let t = a.t.now in
    let long = c.if-t-lt-TABLE_BYTES.false in
    let are : take c.count_of-count.result c.records_of-devices.result ≡ live a.bench =
    rw (c.count_of-count.ensures.answer, c.records_of-devices.ensures.answer) in
    let wrote = c.write.ensures.written ∙ written_over_lem t _ long ∙ ap (λ (ds : List Device). laid t 0 (table_of 32 ds)) are in
    let typed = rw are at (c.write.ensures.typed long) in
    let e = pack-done a.bench t long c.of_records-made.result.refusal (judged (goal.at.returns c).After-of_records-made) c.if-refusal-ne-ACCEPTED.false in record {
      answer = e.0;
      written = wrote ∙ e.1;
      back = λ z. ap unpacked wrote
          ∙ packed-back a.bench t typed long (sym (judged (goal.at.returns c).After-of_records-made) ∙ c.if-refusal-ne-ACCEPTED.false);
    }
