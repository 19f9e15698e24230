use Rattle.std.proofs.Common.{◌∙◌, sym, ap, eqb, ◌+◌}
use borrow.Author.Tests.{eq-eqb, ne_eqb}
use Rattle.refusals.specs.Refusals.{accepted}
use Rattle.basic_laws.specs.Places.{part-all}
use Rattle.bench.specs.Records.{absent}
use Rattle.bench.specs.RecordsLaws.{codes-unsound, codes-twice, codes-onward, codes-end}
use Rattle.bench.proofs.codes_fit.Goals as goal

pub returns-then-refusal-ne-ACCEPTED : goal.returns-then-refusal-ne-ACCEPTED
returns-then-refusal-ne-ACCEPTED c =
    record {
      answer = let unsound = ap (λ n. eqb n accepted) (sym c.refusal_of-refusal.ensures.answer)
          ∙ ne_eqb _ _ c.if-refusal-ne-ACCEPTED.true in
          sym (codes-unsound _ _ _ c.loop-i-test.true unsound) ∙ c.loop-i.invariant;
    }

pub returns-then-not-is_absent : goal.returns-then-not-is_absent
returns-then-not-is_absent c =
    record {
      answer = let is-sound = ap (λ n. eqb n accepted) (sym c.refusal_of-refusal.ensures.answer)
          ∙ eq-eqb _ _ c.if-refusal-ne-ACCEPTED.false in
          let again = ap (absent _) (sym (part-all c.args.devices.now (c.loop-i.i + 1)))
          ∙ sym c.is_absent.ensures.answer ∙ c.if-not-is_absent.true in
          sym (codes-twice _ _ _ c.loop-i-test.true is-sound again) ∙ c.loop-i.invariant;
    }

pub loop-i-preserved : goal.loop-i-preserved
loop-i-preserved c =
    let is-sound = ap (λ n. eqb n accepted) (sym c.refusal_of-refusal.ensures.answer)
    ∙ eq-eqb _ _ c.if-refusal-ne-ACCEPTED.false in
    let once = ap (absent _) (sym (part-all c.args.devices.now (c.loop-i.i + 1)))
    ∙ sym c.is_absent.ensures.answer ∙ c.if-not-is_absent.false in
    sym (codes-onward _ _ _ c.loop-i-test.true is-sound once) ∙ c.loop-i.invariant

pub returns : goal.returns
returns c =
    record { answer = sym (codes-end c.args.devices.now c.loop-i.i c.loop-i-test.false) ∙ c.loop-i.invariant }
