-- The answer to each request on each DS1821: what is replied, and the probe after it.
--     probe_responded p q       the answer to the request q on the probe p, from the definitions of the calls
--     probe_asked l             what a line asks for; one that has no feed asks for nothing that there is
--     probe_said p l out        what the call for a line answers: how many bytes of text there are and the probe, or
--                              refusal 1 and the probe as it was where less than a line's room is lent
--     probe_leaves p l out      the lent bytes after it: the text from byte 0 on, or as they were
use Rattle.std.specs.Prelude.{ℕ, List, leb, length}
use Rattle.std.specs.Prelude.{if◌then◌else◌}
use Rattle.basic_laws.specs.Laid.{laid}
use Rattle.refusals.specs.Refusals.{accepted, no_room}
use Rattle.text.specs.Lines.{Line}
use Rattle.text.specs.Putting.{line_room}
use Rattle.thermostat.specs.Finish.{finished}
use Rattle.thermostat.specs.Power.{probe_powered_up}
use Rattle.thermostat.specs.declared.Thermostat.{Thermostat}
use Rattle.thermostat.specs.Slot.{probe_slotted, probe_reset}
use Rattle.thermostat.specs.Calls.{status_read, status_changed}
use Rattle.thermostat.specs.declared.rules.StatusRead.{StatusRead}
use Rattle.thermostat_session.specs.ProbeRequests.{probe_request_of}
use Rattle.thermostat_session.specs.declared.requests.ProbeRequest.{ProbeRequest}
use Rattle.thermostat_session.specs.declared.requests.ProbeRequest.TheVariants.{Bad, Start, Reset, Slot, Finish}
use Rattle.thermostat_session.specs.declared.requests.ProbeRequest.TheVariants.{Cycle, Status, Change, Show}
use Rattle.thermostat_session.specs.ProbeLines.{reply_line}
use Rattle.thermostat_session.specs.declared.answers.Reply.{Reply}
use Rattle.thermostat_session.specs.declared.answers.Reply.TheVariants.{Unknown, Plain, Bit, StatusByte, Probe}
use Rattle.thermostat_session.specs.declared.ProbeSaid.{ProbeSaid}
use Rattle.thermostat_session.specs.declared.Responded.{Responded}

-- ## By the request

-- a reply, and a probe
abbrev pub replies : Reply → Thermostat → Responded
replies a p = record { reply = a; probe = p }

abbrev pub status_replied : StatusRead → Responded
status_replied r = replies (StatusByte r.refusal r.status) r.probe

unfoldable pub probe_responded : Thermostat → ProbeRequest → Responded
probe_responded p Bad = replies Unknown p
probe_responded p (Start kept) = replies (Plain accepted) (probe_powered_up kept)
probe_responded p Reset = let r = probe_reset p in replies (Bit r.presence) r.probe
probe_responded p (Slot bit) = let r = probe_slotted p bit in replies (Bit r.line) r.probe
probe_responded p (Finish degrees) = let r = finished p degrees in replies (Plain r.refusal) r.probe
probe_responded p Cycle = replies (Plain accepted) (probe_powered_up p.kept)
probe_responded p Status = status_replied (status_read p)
probe_responded p (Change status asked) = let r = status_changed p status asked in replies (Plain r.refusal) r.probe
probe_responded p Show = replies (Probe p) p

-- ## By the line

abbrev pub probe_asked : Line → ProbeRequest
probe_asked l = if l.fed then probe_request_of l.chars else Bad

-- ## What the call answers and leaves

-- the reply's line, and the probe
abbrev pub probe_told : Responded → ProbeSaid
probe_told r = record { refusal = accepted; count = length (reply_line r.reply); probe = r.probe }

abbrev pub probe_said : Thermostat → Line → List ℕ → ProbeSaid
probe_said p l out = if leb line_room (length out) then probe_told (probe_responded p (probe_asked l))
    else record { refusal = no_room; count = 0; probe = p }

abbrev pub probe_leaves : Thermostat → Line → List ℕ → List ℕ
probe_leaves p l out = if leb line_room (length out) then laid out 0 (reply_line (probe_responded p (probe_asked l)).reply)
    else out
