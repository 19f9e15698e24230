-- The loop's invariant: from the number that is looked at on, the answer is still to come.
use Rattle.std.proofs.Common.{◌≡◌, ◌-◌}
use Rattle.master_rules.specs.Pins.{shared_from, shared_pin}
use Rattle.pins.proofs.shared_pin.Given as goal

abbrev pub invariant-loop-pin : goal.invariant-loop-pin
invariant-loop-pin l = shared_from (16 - l.pin) l.pin l.pins ≡ shared_pin l.pins
