-- The tests come in the order of the refusals: the code itself, then whether it is there, and for one that was never
-- added the room. A place that was found lies within the table.
use mathlib.Core.Path.{◌≡◌, sym, ◌∙◌}
use lib.ListN.{length}
use Rattle.settings.specs.Calls.{settings_added}
use Rattle.settings.specs.StoreLaws.{kept-within}
use borrow.Author.Tests.{eq-eqb, ne_eqb}
use borrow.Author.Rules.{rules}
use Rattle.settings.proofs.add.Goals as goal

pub returns-then-refusal-ne-ACCEPTED : goal.returns-then-refusal-ne-ACCEPTED
unfolding settings_added
returns-then-refusal-ne-ACCEPTED c =
    record { answer = simp (← c.refusal_of-refusal.ensures.answer, ne_eqb _ _ c.if-refusal-ne-ACCEPTED.true) }

pub add_again-requires : goal.add_again-requires
add_again-requires c =
    let long : length c.args.store.entries ≡ 32 = search rules in
    kept-within c.args.store c.args.code _ long (sym c.find-kept.ensures ∙ c.in-At.is)

pub returns-in-At : goal.returns-in-At
unfolding settings_added
returns-in-At c =
    record {
      answer = simp (
        ← c.refusal_of-refusal.ensures.answer,
        eq-eqb _ _ c.if-refusal-ne-ACCEPTED.false,
        ← c.find-kept.ensures,
        c.in-At.is,
        c.add_again.ensures,
      );
    }

pub returns-in-Nowhere : goal.returns-in-Nowhere
unfolding settings_added
returns-in-Nowhere c =
    record {
      answer = simp (
        ← c.refusal_of-refusal.ensures.answer,
        eq-eqb _ _ c.if-refusal-ne-ACCEPTED.false,
        ← c.find-kept.ensures,
        c.in-Nowhere.is,
        c.add_first.ensures,
      );
    }
