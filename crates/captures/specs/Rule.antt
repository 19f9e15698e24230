-- The rule over edges. The levels alternate from the first fall on, so an edge ends a low or a high, and goes by how
-- long that lasted. A reset opens a frame and closes the one before it, at its rising edge; presence and slots are
-- those of the open frame. A frame stands without presence until presence is seen.
--     untouched                    the line before any edge
--     begun s                      whether there was an edge
--     after_level s w t d           what the edge at time t comes to that ends, after d microseconds, the level at stage
--                                  s
--     edge_step w t                 what an edge at time t comes to; refusal 16 where it is not later than the one
--                                  before
--     ending_at s                   what an end comes to at a stage
-- What an edge comes to is one of these:
--     goes s t f                   the line is at a stage, with a frame open
--     moves w s t                  the same with the frame that was open
--     restarts t closes            a reset: a frame without presence is open
--     takes_slot w t b              one slot more; refusal 3 without presence, and at 512 slots
--     refuses w n                  a refusal, and the line as it was
use Rattle.std.specs.Prelude.{ℕ, ◌-◌, Bool, true, false, ◌&&◌, leb, ltb}
use Rattle.std.specs.Prelude.{if◌then◌else◌}
use Rattle.refusals.specs.Refusals.{accepted, malformed, bad_pulse, not_later}
use Rattle.frame.specs.declared.Frame.{Frame}
use Rattle.frame.specs.Frames.{most_slots, blank_frame, pushed}
use Rattle.captures.specs.declared.pulses.Pulse.{Pulse}
use Rattle.captures.specs.declared.pulses.Pulse.TheVariants.{One, Zero, Reset, Other}
use Rattle.captures.specs.declared.pulses.PulseStage.{PulseStage}
use Rattle.captures.specs.declared.pulses.PulseStage.TheVariants.{Idle, FirstLow, Released, Presence, High, Low}
use Rattle.captures.specs.declared.pulses.Wire.{Wire}
use Rattle.captures.specs.declared.pulses.Step.{Step}
use Rattle.captures.specs.declared.pulses.Ending.{Ending}
use Rattle.captures.specs.Bounds.{is_reset, is_wait, is_silence, is_presence, pulse_of}

abbrev pub untouched : Wire
untouched = record { stage = Idle; last = 0; frame = blank_frame false }

abbrev pub begun : PulseStage → Bool
begun Idle = false
begun FirstLow = true
begun Released = true
begun Presence = true
begun High = true
begun Low = true

-- ## What an edge comes to

abbrev pub refuses : Wire → ℕ → Step
refuses w n = record { refusal = n; closes = false; wire = w }

abbrev pub goes : PulseStage → ℕ → Frame → Step
goes s t f = record { refusal = accepted; closes = false; wire = record { stage = s; last = t; frame = f } }

abbrev pub moves : Wire → PulseStage → ℕ → Step
moves w s t = goes s t w.frame

abbrev pub restarts : ℕ → Bool → Step
restarts t closes = record {
  refusal = accepted;
  closes = closes;
  wire = record { stage = Released; last = t; frame = blank_frame false };
}

-- one slot more; none is taken without presence, nor behind 512
abbrev pub takes_slot : Wire → ℕ → Bool → Step
takes_slot w t b = if w.frame.presence && ltb w.frame.count most_slots then goes High t (pushed w.frame b)
    else refuses w malformed

-- ## The rule, by the stage of the level that the edge ends

-- the first low: a reset
abbrev pub after_first_low : Wire → ℕ → ℕ → Step
after_first_low w t d = if is_reset d then restarts t false else refuses w bad_pulse

-- a high that a reset's release began: a wait for presence, or silence
abbrev pub after_release : Wire → ℕ → ℕ → Step
after_release w t d = if is_wait d then moves w Presence t else if is_silence d then moves w Low t else refuses w bad_pulse

-- a low that followed the wait: presence
abbrev pub after_presence : Wire → ℕ → ℕ → Step
after_presence w t d = if is_presence d then goes High t (blank_frame true) else refuses w bad_pulse

-- every later low: a slot or a reset
abbrev pub after_low : Wire → ℕ → Pulse → Step
after_low w t One = takes_slot w t true
after_low w t Zero = takes_slot w t false
after_low w t Reset = restarts t true
after_low w t Other = refuses w bad_pulse

-- every high but that after a reset may last any time
abbrev pub after_level : PulseStage → Wire → ℕ → ℕ → Step
after_level Idle w t d = moves w FirstLow t
after_level FirstLow w t d = after_first_low w t d
after_level Released w t d = after_release w t d
after_level Presence w t d = after_presence w t d
after_level High w t d = moves w Low t
after_level Low w t d = after_low w t (pulse_of d)

-- an edge that is not later than the one before is refused with 16
abbrev pub edge_step : Wire → ℕ → Step
edge_step w t = if begun w.stage && leb t w.last then refuses w not_later
    else after_level w.stage w t (t - w.last)

-- ## The end

-- before any edge there is no frame; in a low the end is refused; in a high it closes the open frame
abbrev pub ending_at : PulseStage → Ending
ending_at Idle = record { refusal = accepted; closes = false }
ending_at FirstLow = record { refusal = bad_pulse; closes = false }
ending_at Released = record { refusal = accepted; closes = true }
ending_at Presence = record { refusal = bad_pulse; closes = false }
ending_at High = record { refusal = accepted; closes = true }
ending_at Low = record { refusal = bad_pulse; closes = false }
