-- The code is there, and its device ends its conversion or is refused; or the code is refused. `known` is the place
-- that was found, which lies within the table.
use mathlib.Core.Path.{◌≡◌, sym, ◌∙◌}
use lib.ListN.{length}
use Rattle.bench.specs.BenchLaws.{place-within}
use Rattle.bench.specs.Calls.{conversion_finished}
use borrow.Author.Rules.{rules}
use Rattle.bench.proofs.finish_conversion.Goals as goal

pub device_at-requires : goal.device_at-requires
device_at-requires c =
    let long : length c.args.bench.devices ≡ 32 = search rules in
    place-within c.args.bench c.args.code _ long (sym c.find-place.ensures.answer ∙ c.in-At.is)

pub put_back-requires : goal.put_back-requires
put_back-requires c =
    let long : length c.args.bench.devices ≡ 32 = search rules in
    place-within c.args.bench c.args.code _ long (sym c.find-place.ensures.answer ∙ c.in-At.is)

pub returns-in-At : goal.returns-in-At
unfolding conversion_finished
returns-in-At c =
    record {
      answer = simp (
        ← c.find-place.ensures.answer,
        c.in-At.is,
        ← c.device_at.ensures.answer,
        ← c.end_conversion.ensures.answer,
        c.put_back.ensures.answer,
      );
    }

pub returns-in-Nowhere : goal.returns-in-Nowhere
unfolding conversion_finished
returns-in-Nowhere c =
    record { answer = simp (← c.find-place.ensures.answer, c.in-Nowhere.is) }
