-- The address, then the two limits and, where the family has one, the configuration: the sends one behind the other are
-- the definition's.
use Rattle.master_rules.specs.Access.{settings_sent}
use Rattle.at_code.proofs.write_settings.Goals as goal

pub returns-then-row : goal.returns-then-row
unfolding settings_sent
returns-then-row c =
    record { answer = rw (c.send.ensures.answer, c.send-low.ensures.answer, c.send-high.ensures.answer, c.address-open.ensures.answer, c.if-row.true) }

pub returns : goal.returns
unfolding settings_sent
returns c =
    record { answer = rw (c.send-low.ensures.answer, c.send-high.ensures.answer, c.address-open.ensures.answer, c.if-row.false) }
