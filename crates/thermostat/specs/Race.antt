-- The race for the status register: conversions that finish while the two calls go on. The calls are taken apart into
-- their resets and slots, and the sensor's finishes may fall before, between and after these in any number. A finish
-- between two bits of the status tears the byte: the host reads bits that never stood together.
--     Event               a reset or a slot of the master's, or a finish of the sensor's
--     after_events es p    the probe after the events, in order; a finish that is refused changes nothing
--     lines_shown es p     what the line shows in the slots among them, in order
--     masters_own es       the master's events alone
--     read_events          the first call: a reset, ACh and eight read slots; write_events b, the second: a reset, 0Ch
--                         and the byte b
--     status_seen es p     the byte that the host makes of the last eight of the first call's sixteen slots
--     set_in es p          the flags that finishes set in the course of the events
--     Raced p a es        what is claimed of them: the flags at the end are those of the beginning and those that
--                         finishes set, none is lost and none comes of itself; and mode, polarity and one-shot are as
--                         asked, and the limits as they were, or in thermostat mode all of these as they were
--     RaceClaim           it holds of every probe, every change and every interleaving: law `race`
use Rattle.std.specs.Prelude.{ℕ, Bool, false, ◌&&◌, ◌||◌, List, [], ◌∷◌, ◌++◌, map, ◌≡◌, eqb, drop}
use Rattle.std.specs.Prelude.{if◌then◌else◌}
use Rattle.basic_laws.specs.Bits.{bits_of, number_of}
use Rattle.refusals.specs.Refusals.{accepted}
use Rattle.search_laws.specs.Reads.{read_slots}
use Rattle.temperature.specs.declared.WholeDegrees.{WholeDegrees}
use Rattle.thermostat.specs.Commands.{write_status, read_status}
use Rattle.thermostat.specs.Finish.{above, below, finished}
use Rattle.thermostat.specs.Slot.{probe_slotted, probe_reset}
use Rattle.thermostat.specs.declared.Flags.{Flags}
use Rattle.thermostat.specs.declared.Kept.{Kept}
use Rattle.thermostat.specs.declared.Thermostat.{Thermostat}
use Rattle.thermostat.specs.Calls.{changed_status}
use Rattle.thermostat.specs.declared.rules.Asked.{Asked}

pub data Event : Type 0 where
  reset : Event
  slot : Bool → Event
  finish : WholeDegrees → Event

abbrev pub happens : Thermostat → Event → Thermostat
happens p reset = (probe_reset p).probe
happens p (slot m) = (probe_slotted p m).probe
happens p (finish t) = (finished p t).probe

unfoldable pub after_events : List Event → Thermostat → Thermostat
after_events [] p = p
after_events (e ∷ es) p = after_events es (happens p e)

unfoldable pub lines_shown : List Event → Thermostat → List Bool
lines_shown [] p = []
lines_shown (reset ∷ es) p = lines_shown es (happens p reset)
lines_shown (slot m ∷ es) p = (probe_slotted p m).line ∷ lines_shown es (happens p (slot m))
lines_shown (finish t ∷ es) p = lines_shown es (happens p (finish t))

-- ## The two calls

unfoldable pub masters_own : List Event → List Event
masters_own [] = []
masters_own (reset ∷ es) = reset ∷ masters_own es
masters_own (slot m ∷ es) = slot m ∷ masters_own es
masters_own (finish t ∷ es) = masters_own es

abbrev pub offering : List Bool → List Event
offering bits = map slot bits

abbrev pub read_events : List Event
read_events = reset ∷ offering (bits_of 8 read_status ++ read_slots 8)

abbrev pub write_events : ℕ → List Event
write_events b = reset ∷ offering (bits_of 8 write_status ++ bits_of 8 b)

abbrev pub status_seen : List Event → Thermostat → ℕ
status_seen es p = number_of (drop 8 (lines_shown es p))

-- ## What finishes set

-- a finish that is accepted sets the high flag above the high limit, and the low flag below the low one
abbrev pub set_at : Thermostat → WholeDegrees → Flags
set_at p t =
    let taken = eqb (finished p t).refusal accepted in
    record { high = taken && above t p.kept.high; low = taken && below t p.kept.low }

abbrev pub both_flags : Flags → Flags → Flags
both_flags f g = record { high = f.high || g.high; low = f.low || g.low }

unfoldable pub set_in : List Event → Thermostat → Flags
set_in [] p = record { high = false; low = false }
set_in (reset ∷ es) p = set_in es (happens p reset)
set_in (slot m ∷ es) p = set_in es (happens p (slot m))
set_in (finish t ∷ es) p = both_flags (set_at p t) (set_in es (happens p (finish t)))

-- ## The claim

abbrev pub kept_as_asked : Kept → Asked → Kept
kept_as_asked k a = record { high = k.high; low = k.low; mode = a.mode; polarity = a.polarity; oneshot = a.oneshot }

pub record Raced (p : Thermostat) (a : Asked) (es : List Event) : Type 0 where
  pub flags : (after_events es p).flags ≡ both_flags p.flags (set_in es p)
  pub asked : (after_events es p).kept ≡ (if p.thermostat then p.kept else kept_as_asked p.kept a)

abbrev pub RaceClaim : Type 0
RaceClaim = (p : Thermostat) (a : Asked) (reading writing : List Event)
    → masters_own reading ≡ read_events
    → masters_own writing ≡ write_events (changed_status (status_seen reading p) a)
    → Raced p a (reading ++ writing)
