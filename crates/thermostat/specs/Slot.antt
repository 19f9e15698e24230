-- The reset and the slot of a DS1821. In thermostat mode it neither hears the wire nor answers; else it takes a command
-- right after a reset, and then takes or sends one byte, lowest bit first, as every 1-Wire device does (`shifted`,
-- `byte_slot`), and is quiet.
--     probe_register p r          what is sent of a register: the byte as it stands
--     probe_offer p               what the probe puts on the line in the next slot: 1 unless it sends a 0
--     probe_line_shown p m         what the line shows where the master offers m: the AND of both
--     runs_after c running        whether a conversion runs after command c; stage_after c, where it leads; command_done p
--                                c, the probe after it, converting or not
--     stored p w b               the probe after the host wrote the byte b
--     probe_heard p l             the probe after a slot in which the line showed l
--     probe_slotted p m           one slot in which the master offers m; reset_done p, a reset, with presence outside
--                                thermostat mode. Neither is ever refused
use Rattle.std.specs.Prelude.{ℕ, ◌+◌, Bool, true, false, not, ◌&&◌, ltb, eqb}
use Rattle.std.specs.Prelude.{if◌then◌else◌}
use Rattle.commands.specs.Bytes.{shifted, byte_slot}
use Rattle.commands.specs.declared.Shifted.{Shifted}
use Rattle.commands.specs.declared.Shifted.TheVariants.{Partial, Whole, Beyond}
use Rattle.thermostat.specs.declared.Readable.{Readable}
use Rattle.thermostat.specs.declared.Readable.TheVariants.{Temperature, HighLimit, LowLimit, Status}
use Rattle.thermostat.specs.declared.ProbeStage.{ProbeStage}
use Rattle.thermostat.specs.declared.ProbeStage.TheVariants.{AwaitCommand, Take, Send, Quiet}
use Rattle.thermostat.specs.declared.Thermostat.{Thermostat}
use Rattle.thermostat.specs.declared.Writable.{Writable}
use Rattle.thermostat.specs.declared.Writable.TheVariants.{NewHigh, NewLow, NewStatus}
use Rattle.thermostat.specs.Record.{probe_with_stage, with_converting, with_high, with_low}
use Rattle.thermostat.specs.Status.{status_of, status_written}
use Rattle.thermostat.specs.Commands.{start_conversion, stop_conversion, read_temperature, write_high, write_low}
use Rattle.thermostat.specs.Commands.{read_high, read_low, write_status, read_status}
use Rattle.thermostat.specs.declared.wire.ResetDone.{ResetDone}
use Rattle.thermostat.specs.declared.wire.Slotted.{Slotted}

-- ## What it offers

abbrev pub probe_register : Thermostat → Readable → ℕ
probe_register p Temperature = p.temperature
probe_register p HighLimit = p.kept.high
probe_register p LowLimit = p.kept.low
probe_register p Status = status_of p

abbrev pub probe_offer_at : Thermostat → ProbeStage → Bool
probe_offer_at p (AwaitCommand s n) = true
probe_offer_at p (Take w s n) = true
probe_offer_at p (Send r j) = byte_slot (probe_register p r) j
probe_offer_at p Quiet = true

abbrev pub probe_offer : Thermostat → Bool
probe_offer p = if p.thermostat then true else probe_offer_at p p.stage

abbrev pub probe_line_shown : Thermostat → Bool → Bool
probe_line_shown p m = probe_offer p && m

-- ## What it hears

abbrev pub await_command : ProbeStage
await_command = AwaitCommand 0 0

-- whether a conversion runs after command c: one that is stopped leaves no reading
unfoldable pub runs_after : ℕ → Bool → Bool
runs_after c running = if eqb c start_conversion then true else if eqb c stop_conversion then false else running

-- where command c leads: to a byte that is sent or taken, else to quiet
unfoldable pub stage_after : ℕ → ProbeStage
stage_after c =
    if eqb c read_temperature then Send Temperature 0
    else if eqb c write_high then Take NewHigh 0 0
    else if eqb c write_low then Take NewLow 0 0
    else if eqb c read_high then Send HighLimit 0
    else if eqb c read_low then Send LowLimit 0
    else if eqb c write_status then Take NewStatus 0 0
    else if eqb c read_status then Send Status 0
    else Quiet

abbrev pub command_done : Thermostat → ℕ → Thermostat
command_done p c = probe_with_stage (with_converting p (runs_after c p.converting)) (stage_after c)

abbrev pub stored : Thermostat → Writable → ℕ → Thermostat
stored p NewHigh b = with_high p b
stored p NewLow b = with_low p b
stored p NewStatus b = status_written p b

-- a command is acted on at its eighth bit
abbrev pub heard_command : Thermostat → Shifted → Thermostat
heard_command p (Partial s n) = probe_with_stage p (AwaitCommand s n)
heard_command p (Whole c) = command_done p c
heard_command p Beyond = probe_with_stage p Quiet

-- a byte is stored at its eighth bit
abbrev pub heard_byte : Thermostat → Writable → Shifted → Thermostat
heard_byte p w (Partial s n) = probe_with_stage p (Take w s n)
heard_byte p w (Whole b) = probe_with_stage (stored p w b) Quiet
heard_byte p w Beyond = probe_with_stage p Quiet

-- the next bit of a byte that is sent, or quiet after the eighth
abbrev pub sent_on : Readable → ℕ → ProbeStage
sent_on r j = if ltb j 7 then Send r (j + 1) else Quiet

abbrev pub heard_at : Thermostat → Bool → ProbeStage → Thermostat
heard_at p l (AwaitCommand s n) = heard_command p (shifted s n l)
heard_at p l (Take w s n) = heard_byte p w (shifted s n l)
heard_at p l (Send r j) = probe_with_stage p (sent_on r j)
heard_at p l Quiet = p

abbrev pub probe_heard : Thermostat → Bool → Thermostat
probe_heard p l = if p.thermostat then p else heard_at p l p.stage

-- ## The wire

unfoldable pub probe_slotted : Thermostat → Bool → Slotted
probe_slotted p m = record { line = probe_line_shown p m; probe = probe_heard p (probe_line_shown p m) }

unfoldable pub probe_reset : Thermostat → ResetDone
probe_reset p = record {
  presence = not p.thermostat;
  probe = if p.thermostat then p else probe_with_stage p await_command;
}
