-- Unpacked and looked at; where the bytes are refused the bench is the empty one, on which nothing is seen.
use mathlib.Core.Path.{◌≡◌, ◌∙◌, ap}
use borrow.Author.Tests.{eq-eqb, ne_eqb}
use Rattle.refusals.specs.Refusals.{accepted}
use Rattle.bench.specs.Bench.{vacant}
use Rattle.bench.specs.Calls.{looked}
use Rattle.packed_bench.specs.Table.{unpacked}
use Rattle.packed_bench.specs.ThroughLaws.{refused-unseen}
use Rattle.packed_bench.proofs.calls.look.Goals as goal

pub returns-then-refusal-ne-ACCEPTED : goal.returns-then-refusal-ne-ACCEPTED
returns-then-refusal-ne-ACCEPTED c =
    record {
      answer = let a = c.args in
          let t = a.t.now in
          let none = rw c.unpack-there.ensures.answer at c.if-refusal-ne-ACCEPTED.true in
          let unseen-device : c.look-seen.result.device ≡ vacant =
          ap (λ v. v.device) c.look-seen.ensures.answer ∙ ap (λ v. (looked v.bench a.code).device) c.unpack-there.ensures.answer
          ∙ refused-unseen t a.code none in
          rw (ne_eqb (unpacked t).refusal accepted none, unseen-device, c.unpack-there.ensures.answer);
    }

pub returns : goal.returns
returns c =
    record {
      answer = let a = c.args in
          let t = a.t.now in
          let there = eq-eqb (unpacked t).refusal accepted (rw c.unpack-there.ensures.answer at c.if-refusal-ne-ACCEPTED.false) in
          rw there (c.look-seen.ensures.answer ∙ ap (λ v. looked v.bench a.code) c.unpack-there.ensures.answer);
    }
