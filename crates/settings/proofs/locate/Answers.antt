-- The tests come in the order of the refusals: the code itself, then whether it is there. A place that was found lies
-- within the table.
use mathlib.Core.Path.{◌≡◌, sym, ◌∙◌}
use lib.ListN.{length}
use Rattle.settings.specs.Calls.{located}
use Rattle.settings.specs.StoreLaws.{kept-within}
use borrow.Author.Tests.{eq-eqb, ne_eqb}
use borrow.Author.Rules.{rules}
use Rattle.settings.proofs.locate.Goals as goal

pub returns-then-refusal-ne-ACCEPTED-clause-answer : goal.returns-then-refusal-ne-ACCEPTED-clause-answer
unfolding located
returns-then-refusal-ne-ACCEPTED-clause-answer c =
    simp (← c.refusal_of-refusal.ensures.answer, ne_eqb _ _ c.if-refusal-ne-ACCEPTED.true, c.miss.ensures)

pub locate_at-requires : goal.locate_at-requires
locate_at-requires c =
    let long : length c.args.store.entries ≡ 32 = search rules in
    kept-within c.args.store c.args.code _ long (sym c.find-kept.ensures ∙ c.in-At.is)

pub returns-in-At-clause-answer : goal.returns-in-At-clause-answer
unfolding located
returns-in-At-clause-answer c =
    simp (
      ← c.refusal_of-refusal.ensures.answer,
      eq-eqb _ _ c.if-refusal-ne-ACCEPTED.false,
      ← c.find-kept.ensures,
      c.in-At.is,
      c.locate_at.ensures,
    )

pub returns-in-Nowhere-clause-answer : goal.returns-in-Nowhere-clause-answer
unfolding located
returns-in-Nowhere-clause-answer c =
    simp (
      ← c.refusal_of-refusal.ensures.answer,
      eq-eqb _ _ c.if-refusal-ne-ACCEPTED.false,
      ← c.find-kept.ensures,
      c.in-Nowhere.is,
      c.miss-in-Nowhere.ensures,
    )
