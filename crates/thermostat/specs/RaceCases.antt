-- One race, computed. The low limit is above the high one, so that a single finish sets both flags; it falls between
-- bit 3 and bit 4 of the status.
--     begun           a probe with limits 0 and 10, in continuous conversion
--     torn            the first call, with a finish at 5 degrees between the two flags' bits
-- The host reads 50h, the high flag alone, which stood at no moment: `torn-status`. The two calls keep both flags all
-- the same, `both-kept`; a host that writes the byte as it read it, with the mode changed, clears the low flag that it
-- has not seen: `low-flag-lost`.
use Rattle.std.specs.Prelude.{true, false, List, [], ◌∷◌, ◌++◌, ◌≡◌, refl, pos}
use Rattle.basic_laws.specs.Bits.{bits_of, number_of}
use Rattle.search_laws.specs.Reads.{read_slots}
use Rattle.thermostat.specs.Commands.{start_conversion, read_status}
use Rattle.thermostat.specs.Finish.{measured, finished}
use Rattle.thermostat.specs.Power.{probe_powered_up}
use Rattle.thermostat.specs.Slot.{runs_after, stage_after, probe_slotted, probe_reset}
use Rattle.thermostat.specs.Status.{status_of, status_written}
use Rattle.thermostat.specs.declared.Thermostat.{Thermostat}
use Rattle.thermostat.specs.Calls.{changed_status}
use Rattle.thermostat.specs.Race.{Event, reset, finish, after_events, lines_shown, masters_own, offering, read_events}
use Rattle.thermostat.specs.Race.{write_events, status_seen}
use Rattle.thermostat.specs.declared.rules.Asked.{Asked}

abbrev begun : Thermostat
begun = after_events (reset ∷ offering (bits_of 8 start_conversion))
    (probe_powered_up (record { high = 0; low = 10; mode = false; polarity = false; oneshot = false }))

abbrev torn : List Event
torn = reset ∷ (offering (bits_of 8 read_status ++ read_slots 4)
    ++ (finish (record { 0 = pos 5 }) ∷ offering (read_slots 4)))

abbrev thermostat_next : Asked
thermostat_next = record { mode = true; polarity = false; oneshot = false }

-- the status before, as the host reads it, and after
pub torn-status : (status_of begun ∷ status_seen torn begun ∷ status_of (after_events torn begun) ∷ [])
    ≡ (0x40 ∷ 0x50 ∷ 0x58 ∷ [])
unfolding after_events lines_shown probe_powered_up bits_of number_of probe_slotted probe_reset runs_after stage_after status_of
    finished measured
torn-status = refl

-- it is an interleaving of the first call
pub torn-reading : masters_own torn ≡ read_events
unfolding masters_own bits_of
torn-reading = refl

pub both-kept : (after_events (torn ++ write_events (changed_status (status_seen torn begun) thermostat_next)) begun).flags
    ≡ record { high = true; low = true }
unfolding after_events lines_shown probe_powered_up bits_of number_of changed_status probe_slotted probe_reset runs_after
    stage_after status_of status_written finished measured
both-kept = refl

-- 54h: 50h with the mode's bit
pub low-flag-lost : (after_events (torn ++ write_events 0x54) begun).flags ≡ record { high = true; low = false }
unfolding after_events lines_shown probe_powered_up bits_of number_of probe_slotted probe_reset runs_after stage_after status_of
    status_written finished measured
low-flag-lost = refl
