-- Word by word, as the tests say.
use borrow.Author.Tests.{eq-eqb, ne_eqb}
use Rattle.comparing.specs.Departure.{side_number}
use Rattle.comparing.specs.declared.Side.TheVariants.{Other}
use Rattle.comparing.proofs.answers.put_side.Goals as goal

pub returns-then-line-eq0 : goal.returns-then-line-eq0
returns-then-line-eq0 c =
    rw (eq-eqb c.args.line 0 c.if-line-eq0.true) c.put_word.ensures

pub returns-then-side-eq-FROM_OTHER : goal.returns-then-side-eq-FROM_OTHER
returns-then-side-eq-FROM_OTHER c =
    let a = c.args in
    rw (
      ne_eqb a.line 0 c.if-line-eq0.false,
      eq-eqb a.side (side_number Other) c.if-side-eq-FROM_OTHER.true,
    ) c.put_word-then-side-eq-FROM_OTHER.ensures

pub returns : goal.returns
returns c =
    let a = c.args in
    rw (
      ne_eqb a.line 0 c.if-line-eq0.false,
      ne_eqb a.side (side_number Other) c.if-side-eq-FROM_OTHER.false,
    ) c.put_word-2.ensures
