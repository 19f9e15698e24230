-- The tests of the definition, in its order.
use mathlib.Core.Path.{◌∙◌, sym}
use Rattle.packed_bench.specs.TableLaws.{records-in, unpack-short, unpack-other, unpack-made}
use Rattle.packed_bench.proofs.table.unpack.Goals as goal

pub returns-then-t-lt-TABLE_BYTES : goal.returns-then-t-lt-TABLE_BYTES
returns-then-t-lt-TABLE_BYTES c =
    record {
      answer = let t = c.args.t.now in
          c.refuse.ensures ∙ unpack-short t c.if-t-lt-TABLE_BYTES.true;
    }

pub returns-then-not-is_packed : goal.returns-then-not-is_packed
returns-then-not-is_packed c =
    record {
      answer = let t = c.args.t.now in
          let f = c.read-found.result in
          c.refuse-then-not-is_packed.ensures
          ∙ unpack-other t c.if-t-lt-TABLE_BYTES.false f.devices f.count
          (c.read-found.ensures.answer ∙ records-in t c.if-t-lt-TABLE_BYTES.false) (sym c.is_packed.ensures
          ∙ c.if-not-is_packed.true);
    }

pub returns : goal.returns
returns c =
    record {
      answer = let t = c.args.t.now in
          let f = c.read-found.result in
          unpack-made t c.if-t-lt-TABLE_BYTES.false f.devices f.count
          (c.read-found.ensures.answer ∙ records-in t c.if-t-lt-TABLE_BYTES.false) c.read-found.ensures.few
          (sym c.is_packed.ensures ∙ c.if-not-is_packed.false) c.of_records-made.result
          c.of_records-made.ensures.answer;
    }
