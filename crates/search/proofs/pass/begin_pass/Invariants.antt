-- The loop's invariant says what is still to come: the bits that are left, sent and recorded on what stands, give the
-- answer.
use Rattle.std.proofs.Common.{◌≡◌, ◌-◌}
use Rattle.search.specs.Pass.{command_sent}
use Rattle.search.proofs.pass.begin_pass.Given as goal

abbrev pub invariant-loop : goal.invariant-loop
invariant-loop l =
    command_sent (8 - l.counter) l.left l.frame l.b ≡ command_sent 8 l.command l.initial.frame l.initial.b
