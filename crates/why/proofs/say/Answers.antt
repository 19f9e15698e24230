-- Part by part, as the calls answer.
use Rattle.why.specs.Why.{told_by}
use borrow.Author.Tests.{not-true, not-false}
use Rattle.why.proofs.say.Goals as goal

pub returns-then-not-page : goal.returns-then-not-page
unfolding told_by
returns-then-not-page c =
    rw (not-true c.args.page.taken c.if-not-page.true) c.silent.ensures

pub returns : goal.returns
unfolding told_by
returns c =
    let a = c.args in
    let taken = not-false a.page.taken c.if-not-page.false in
    let band = c.band.ensures in
    simp (
      taken,
      c.limit_of-high.ensures.answer,
      c.limit_of-low.ensures.answer,
      c.whole_of.ensures.answer,
      band,
      c.limits_differ.ensures,
    )
