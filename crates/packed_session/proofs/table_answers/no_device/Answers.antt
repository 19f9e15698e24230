-- On the empty bench nothing is seen but a vacant place.
use mathlib.Core.Path.{◌≡◌, ap, ◌∙◌}
use Rattle.bench.specs.Bench.{vacant}
use Rattle.bench.specs.Calls.{looked}
use Rattle.packed_bench.specs.ThroughLaws.{empty-unseen}
use Rattle.packed_session.proofs.table_answers.no_device.Goals as goal

pub returns : goal.returns
returns c =
    let none : c.look-nothing.result.device ≡ vacant =
    ap (λ v. v.device) c.look-nothing.ensures.answer ∙ ap (λ b. (looked b 0).device) c.new.ensures.answer
    ∙ empty-unseen 0 in record { answer = rw none at c.show_line.ensures.answer; written = rw none at c.show_line.ensures.written }
