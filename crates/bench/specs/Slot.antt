-- Resets and slots (the scope, "One slot"). Both are refused with 10 while a line-powered device is busy, and then
-- nothing changes.
--     line_bit b m     what the line shows: the AND of the master's bit and every live device's offer
--     heard b l       every live device after a slot in which the line showed l
--     slotted b m     one slot: the line's bit, and the bench after it; on the empty bench the line is the master's bit
--     reset_done b     a reset: every live device listens for a ROM command; presence is shown if there is any device
use Rattle.std.specs.Prelude.{Bool, false, ltb}
use Rattle.std.specs.Prelude.{if◌then◌else◌}
use Rattle.refusals.specs.Refusals.{accepted, wire_busy}
use Rattle.bench.specs.Wire.{line_shown, all_heard, all_restarted}
use Rattle.bench.specs.declared.Bench.{Bench}
use Rattle.bench.specs.declared.ResetDone.{ResetDone}
use Rattle.bench.specs.declared.Slotted.{Slotted}
use Rattle.bench.specs.Bench.{live, free}

unfoldable pub line_bit : Bench → Bool → Bool
line_bit b m = line_shown (live b) m

unfoldable pub heard : Bench → Bool → Bench
heard b l = record { devices = all_heard b.count b.devices l; count = b.count }

unfoldable pub slotted : Bench → Bool → Slotted
slotted b m =
    if free b
    then record { refusal = accepted; line = line_bit b m; bench = heard b (line_bit b m) }
    else record { refusal = wire_busy; line = false; bench = b }

abbrev pub presence_of : Bench → Bool
presence_of b = ltb 0 b.count

unfoldable pub restarted : Bench → Bench
restarted b = record { devices = all_restarted b.count b.devices; count = b.count }

unfoldable pub reset_done : Bench → ResetDone
reset_done b =
    if free b
    then record { refusal = accepted; presence = presence_of b; bench = restarted b }
    else record { refusal = wire_busy; presence = false; bench = b }
