-- A place that was found is one of the table, and its record is the definition's.
use mathlib.Core.Path.{◌≡◌, ◌∙◌, sym}
use lib.ListN.{length}
use Rattle.bench.specs.BenchLaws.{place-within}
use Rattle.bench.specs.Calls.{looked}
use borrow.Author.Rules.{rules}
use Rattle.bench.proofs.look.Goals as goal

pub device_at-requires : goal.device_at-requires
device_at-requires c =
    let long : length c.args.bench.devices ≡ 32 = search rules in
    place-within c.args.bench c.args.code _ long (sym c.find-place.ensures.answer
    ∙ c.in-At.is)

pub returns-in-At : goal.returns-in-At
unfolding looked
returns-in-At c =
    record {
      answer = simp (
        ← c.find-place.ensures.answer,
        c.in-At.is,
        c.device_at.ensures.answer,
      );
    }

pub returns-in-Nowhere : goal.returns-in-Nowhere
unfolding looked
returns-in-Nowhere c =
    record {
      answer = simp (
        ← c.find-place.ensures.answer,
        c.in-Nowhere.is,
        c.vacant_place.ensures.answer,
      );
    }
