use Rattle.std.proofs.Common.{rules, ◌≡◌, ◌∙◌, sym, length}
use Rattle.bench.specs.RecordsLaws.{made-done}
use Rattle.bench.proofs.of_records.Goals as goal

pub returns : goal.returns
returns c =
    record {
      answer = let a = c.args in
          let long : length a.devices ≡ 32 = search rules in
          let fit = sym c.codes_fit.ensures.answer ∙ c.if-not-codes_fit.false in
          rw (c.copy_from_slice.ensures.after, c.new.ensures.answer)
          (made-done a.devices a.count long c.if-taken-gt-PLACES.false fit);
    }
