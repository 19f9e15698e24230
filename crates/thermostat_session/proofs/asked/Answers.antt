-- By the test of the feed.
use Rattle.thermostat_session.proofs.asked.Goals as goal

pub returns-then-fed : goal.returns-then-fed
returns-then-fed c =
    rw (c.if-fed.true, c.parse.ensures.answer)

pub returns : goal.returns
returns c =
    rw c.if-fed.false
