-- How long the lows and highs of a capture last, in microseconds: the table of the request for edges. Both ends of a
-- range belong to it.
--     lasts_between a b d     whether a time is in the range from a to b
--     is_one_slot d, is_zero d  the low of a slot that shows 1, and of one that shows 0
--     is_reset d              the low of a reset
--     is_wait d               the high between a reset and presence
--     is_presence d           the low of presence
--     is_silence d            the high after a reset that nobody answers
--     pulse_of d              what a low is by how long it lasts
use Rattle.std.specs.Prelude.{ℕ, Bool, ◌&&◌, leb}
use Rattle.std.specs.Prelude.{if◌then◌else◌}
use Rattle.captures.specs.declared.pulses.Pulse.{Pulse}
use Rattle.captures.specs.declared.pulses.Pulse.TheVariants.{One, Zero, Reset, Other}

-- whether a time is in a range, its ends among it
abbrev pub lasts_between : ℕ → ℕ → ℕ → Bool
lasts_between a b d = leb a d && leb d b

-- ## Lows

abbrev pub is_one_slot : ℕ → Bool
is_one_slot d = lasts_between 1 15 d

-- a slot that shows 0
abbrev pub is_zero : ℕ → Bool
is_zero d = lasts_between 16 120 d

abbrev pub is_reset : ℕ → Bool
is_reset d = lasts_between 480 960 d

abbrev pub is_presence : ℕ → Bool
is_presence d = lasts_between 60 240 d

-- ## Highs after a reset

-- the wait for presence
abbrev pub is_wait : ℕ → Bool
is_wait d = lasts_between 15 60 d

-- no presence
abbrev pub is_silence : ℕ → Bool
is_silence d = leb 480 d

-- ## What a low is

-- a slot, a reset, or neither
abbrev pub pulse_of : ℕ → Pulse
pulse_of d = if is_one_slot d then One else if is_zero d then Zero else if is_reset d then Reset else Other
