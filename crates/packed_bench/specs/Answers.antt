-- What the calls on lent bytes answer: what those on the records do, without the bench, which stays in the bytes.
--     no_reset n, reset_seen r     of a reset: its refusal and whether presence was shown
--     no_slot n, slot_seen r       of a slot: its refusal and the line's bit
use Rattle.std.specs.Prelude.{ℕ, false}
use Rattle.bench.specs.declared.ResetDone.{ResetDone}
use Rattle.bench.specs.declared.Slotted.{Slotted}
use Rattle.packed_bench.specs.declared.calls.ResetSeen.{ResetSeen}
use Rattle.packed_bench.specs.declared.calls.SlotSeen.{SlotSeen}

abbrev pub no_reset : ℕ → ResetSeen
no_reset n = record { refusal = n; presence = false }

abbrev pub reset_seen : ResetDone → ResetSeen
reset_seen r = record { refusal = r.refusal; presence = r.presence }

abbrev pub no_slot : ℕ → SlotSeen
no_slot n = record { refusal = n; line = false }

abbrev pub slot_seen : Slotted → SlotSeen
slot_seen r = record { refusal = r.refusal; line = r.line }
