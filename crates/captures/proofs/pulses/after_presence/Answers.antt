-- Below, within and above the bounds of presence.
use Rattle.captures.specs.RuleLaws.{presence-short, presence-seen, presence-long}
use mathlib.Core.Path.{◌∙◌}
use Rattle.captures.proofs.pulses.after_presence.Goals as goal

pub returns-then-lasted-lt-SHORTEST_PRESENCE : goal.returns-then-lasted-lt-SHORTEST_PRESENCE
returns-then-lasted-lt-SHORTEST_PRESENCE c =
    c.refuse.ensures ∙ presence-short _ _ _ c.if-lasted-lt-SHORTEST_PRESENCE.true

pub returns-then-lasted-le-LONGEST_PRESENCE : goal.returns-then-lasted-le-LONGEST_PRESENCE
returns-then-lasted-le-LONGEST_PRESENCE c =
    rw c.blank.ensures.answer at c.go.ensures
    ∙ presence-seen _ _ _ c.if-lasted-lt-SHORTEST_PRESENCE.false c.if-lasted-le-LONGEST_PRESENCE.true

pub returns : goal.returns
returns c =
    c.refuse-2.ensures ∙ presence-long _ _ _ c.if-lasted-le-LONGEST_PRESENCE.false
