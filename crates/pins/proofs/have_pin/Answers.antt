-- std's word for the answer, then ours.
use Rattle.std.proofs.Common.{rules, ◌≡◌, ◌∙◌, eqb}
use Rattle.std.specs.Prelude.{count_by}
use Rattle.pins.proofs.Chains.{those-counted}
use Rattle.pins.proofs.have_pin.Goals as goal

pub returns : goal.returns
returns c =
    let told : c.count.result ≡ count_by (λ q. eqb q c.args.pin) c.args.pins.now = search rules in
    told ∙ those-counted _ _
