-- The loop's invariant says what is still to come: the bits that are left, sent on the bench as it stands, give the
-- answer.
use Rattle.std.proofs.Common.{◌≡◌, ◌-◌}
use Rattle.master_rules.specs.Wire.{sent}
use Rattle.at_code.proofs.send.Given as goal

abbrev pub invariant-loop : goal.invariant-loop
invariant-loop l = sent (l.count - l.counter) l.left l.b ≡ sent l.count l.number l.initial.b
