-- Where the reset shows presence the command and the byte are sent; else the answer is 4. Either way the flags are as
-- they were: `flags-left`.
use mathlib.Core.Path.{◌≡◌, ap, ◌∙◌}
use Rattle.refusals.specs.Refusals.{accepted, no_presence}
use Rattle.thermostat.specs.Calls.{status_changed}
use Rattle.thermostat.proofs.CallsLaws.{flags-left}
use Rattle.thermostat.specs.declared.rules.Changed.{Changed}
use Rattle.thermostat.proofs.master.change.Goals as goal

pub returns-then-r : goal.returns-then-r
unfolding status_changed
returns-then-r c =
    let a = c.args in
    let answer : record { refusal = accepted; probe = c.send.result }
    ≡ status_changed a.probe a.status a.asked
    = simp (
      c.send.ensures.answer,
      c.changed_status.ensures.answer,
      c.send-open.ensures.answer,
      ← c.reset-r.ensures.answer,
      c.if-r.true,
    ) in
    record { answer = answer; flags = ap (λ (r : Changed). r.probe.flags) answer ∙ flags-left a.probe a.status a.asked }

pub returns : goal.returns
unfolding status_changed
returns c =
    let a = c.args in
    let answer : record { refusal = no_presence; probe = c.reset-r.result.probe }
    ≡ status_changed a.probe a.status a.asked
    = simp (← c.reset-r.ensures.answer, c.if-r.false) in
    record { answer = answer; flags = ap (λ (r : Changed). r.probe.flags) answer ∙ flags-left a.probe a.status a.asked }
