-- What a line asks of a DS1821: the table of its console, by name, number of fields and request. Whatever matches no
-- row, or has a field that is none, is `Bad`.
--     degrees_asked w         whole degrees, written as a count of sixteenths is: -32768 to 32767 in one to five digits,
--                            with a minus in front where negative
--     limit_in w              a limit: degrees from -128 to 127, as the signed byte that the probe keeps
--     asked_in m p o          three bits: mode, polarity, one-shot
--     of_probe ws             the calls on the probe, by the words of a line
--     probe_request_of s       what a line, without its feed, asks for; a line over 80 characters is `Bad`
use Rattle.std.specs.Prelude.{ℕ, Bool, ◌&&◌, List, eqb, leb, length}
use Rattle.std.specs.Prelude.{if◌then◌else◌}
use Rattle.refusals.specs.Refusals.{accepted}
use Rattle.text.specs.Ascii.{ascii}
use Rattle.text.specs.declared.NumberRead.{NumberRead}
use Rattle.temperature.specs.Alarm.{limit_byte_of}
use Rattle.lines.specs.Words.{word_of, words_of}
use Rattle.lines.specs.Fields.{byte_in, bit_in, count_in}
use Rattle.lines.specs.declared.fields.CountRead.{CountRead}
use Rattle.bench_requests.specs.Requests.{asks, longest_request}
use Rattle.thermostat_session.specs.declared.requests.AskedRead.{AskedRead}
use Rattle.thermostat_session.specs.declared.requests.DegreesRead.{DegreesRead}
use Rattle.thermostat_session.specs.declared.requests.LimitRead.{LimitRead}
use Rattle.thermostat_session.specs.declared.requests.ProbeRequest.{ProbeRequest}
use Rattle.thermostat_session.specs.declared.requests.ProbeRequest.TheVariants.{Bad, Start, Reset, Slot, Finish}
use Rattle.thermostat_session.specs.declared.requests.ProbeRequest.TheVariants.{Cycle, Status, Change, Show}

-- ## Fields

-- the same number, of degrees
abbrev pub count_in_degrees : CountRead → DegreesRead
count_in_degrees c = record { valid = c.valid; degrees = record { 0 = c.count.0 } }

unfoldable pub degrees_asked : List ℕ → DegreesRead
degrees_asked w = count_in_degrees (count_in w)

-- what is read of a limit: degrees that a signed byte holds
abbrev pub as_limit : DegreesRead → LimitRead
as_limit d = record {
  valid = d.valid && eqb (limit_byte_of d.degrees).refusal accepted;
  byte = (limit_byte_of d.degrees).byte;
}

unfoldable pub limit_in : List ℕ → LimitRead
limit_in w = as_limit (degrees_asked w)

-- whether a bit that was read is 1
abbrev pub is_one : NumberRead → Bool
is_one bit = eqb bit.number 1

unfoldable pub asked_in : List ℕ → List ℕ → List ℕ → AskedRead
asked_in m p o = record {
  valid = (bit_in m).valid && (bit_in p).valid && (bit_in o).valid;
  asked = record { mode = is_one (bit_in m); polarity = is_one (bit_in p); oneshot = is_one (bit_in o) };
}

-- ## The requests, by what was read of their fields

abbrev pub start_asked : LimitRead → LimitRead → AskedRead → ProbeRequest
start_asked h l a =
    if h.valid && l.valid && a.valid then
    Start record {
      high = h.byte;
      low = l.byte;
      mode = a.asked.mode;
      polarity = a.asked.polarity;
      oneshot = a.asked.oneshot;
    }
    else Bad

abbrev pub probe_slot_asked : NumberRead → ProbeRequest
probe_slot_asked bit = if bit.valid then Slot (is_one bit) else Bad

abbrev pub finish_asked : DegreesRead → ProbeRequest
finish_asked d = if d.valid then Finish d.degrees else Bad

abbrev pub probe_change_asked : NumberRead → AskedRead → ProbeRequest
probe_change_asked status a = if status.valid && a.valid then Change status.number a.asked else Bad

-- ## The table

-- START HIGH LOW MODE POLARITY ONESHOT; RESET; SLOT BIT; FINISH DEGREES; CYCLE; STATUS; CHANGE STATUS MODE POLARITY
-- ONESHOT; SHOW
unfoldable pub of_probe : List (List ℕ) → ProbeRequest
of_probe ws =
    let field = word_of ws in
    if asks (ascii "start") 5 ws then start_asked (limit_in (field 1)) (limit_in (field 2))
    (asked_in (field 3) (field 4) (field 5))
    else if asks (ascii "reset") 0 ws then Reset
    else if asks (ascii "slot") 1 ws then probe_slot_asked (bit_in (field 1))
    else if asks (ascii "finish") 1 ws then finish_asked (degrees_asked (field 1))
    else if asks (ascii "cycle") 0 ws then Cycle
    else if asks (ascii "status") 0 ws then Status
    else if asks (ascii "change") 4 ws then probe_change_asked (byte_in (field 1)) (asked_in (field 2) (field 3) (field 4))
    else if asks (ascii "show") 0 ws then Show
    else Bad

unfoldable pub probe_request_of : List ℕ → ProbeRequest
probe_request_of s = if leb (length s) longest_request then of_probe (words_of s) else Bad
