-- The history of a bench (the scope, "One slot" and "The master"): every sequence of calls from the empty bench,
-- refused calls included, the bench that it leaves, the codes that it has added, and the book with a page for each
-- code.
--     Call              one call, with its arguments; a search has the lengths of the list and of the recording lent,
--                       the call for address pins that of its list
--     Typed c           the arguments are values of their types: codes below 2^64, bytes below 256, counts of 16 bits
--     apply b c         the bench in the answer to the call, refused or not
--     after h           the bench after the calls h, from the empty bench
--     added h           the codes of the accepted addings, in order
--     page h code       the code's page after the calls h: what its last finished conversion stored and the two limits
--                       of that moment. An accepted adding or power cycle empties it, an accepted finish of a
--                       conversion writes it, and nothing else changes it. It never looks at a flag
--     alarmed p         whether a page has the verdict: not empty, and its reading at or past one of its limits
use Rattle.std.specs.Prelude.{ℕ, ◌^◌, ◌<◌, Bool, true, ◌&&◌, List, [], ◌∷◌, ◌++◌, eqb, get_or}
use Rattle.std.specs.Int.{w16}
use Rattle.std.proofs.Common.{SFits}
use Rattle.std.specs.Prelude.{if◌then◌else◌}
use Rattle.basic_laws.specs.Fold.{fold}
use Rattle.commands.specs.Commands.{search_rom, alarm_search}
use Rattle.refusals.specs.Refusals.{accepted}
use Rattle.family.specs.Layout.{high_limit_place, low_limit_place}
use Rattle.temperature.specs.declared.Sixteenths.{Sixteenths}
use Rattle.temperature.specs.Alarm.{verdict}
use Rattle.scratchpad.specs.Stored.{stored_reading}
use Rattle.device.specs.Power.{empty_page}
use Rattle.device.specs.Record.{row_of}
use Rattle.device.specs.declared.Device.{Device}
use Rattle.device.specs.declared.Joining.{Joining}
use Rattle.device.specs.declared.Page.{Page}
use Rattle.device.specs.declared.Settings.{Settings}
use Rattle.bench.specs.Bench.{empty_bench, place_of}
use Rattle.bench.specs.Slot.{slotted, reset_done}
use Rattle.bench.specs.Calls.{added_to, conversion_finished, copy_finished, power_cycled, device_at}
use Rattle.bench.specs.declared.Bench.{Bench}
use Rattle.bench.specs.declared.Changed.{Changed}
use Rattle.bench.specs.declared.Place.{Place}
use Rattle.bench.specs.declared.Place.TheVariants.{At, Nowhere}
use Rattle.master_rules.specs.Access.{read_at, write_at}
use Rattle.master_rules.specs.Pins.{pins_outcome}
use Rattle.master_rules.specs.Search.{search_outcome}

-- ## Calls

pub data Call : Type 0 where
  add : Joining → Call
  reset : Call
  slot : Bool → Call
  finish_conversion : ℕ → Sixteenths → Call
  finish_copy : ℕ → Call
  power_cycle : ℕ → Call
  search : ℕ → ℕ → Call
  search_alarms : ℕ → ℕ → Call
  read : ℕ → Call
  write : ℕ → Settings → Call
  read_pins : ℕ → Call

abbrev pub Code64 : ℕ → Type 0
Code64 code = code < 2 ^ 64

abbrev pub Byte : ℕ → Type 0
Byte b = b < 256

abbrev pub Typed : Call → Type 0
Typed (add new) = Code64 new.code × Byte new.high × Byte new.low × Byte new.configuration × Byte new.pins
Typed reset = Unit
Typed (slot m) = Unit
Typed (finish_conversion code n) = Code64 code × SFits w16 n.0
Typed (finish_copy code) = Code64 code
Typed (power_cycle code) = Code64 code
Typed (search places room) = Code64 places × Code64 room
Typed (search_alarms places room) = Code64 places × Code64 room
Typed (read code) = Code64 code
Typed (write code s) = Code64 code × Byte s.high × Byte s.low × Byte s.configuration
Typed (read_pins places) = Code64 places

-- ## The bench

abbrev pub apply : Bench → Call → Bench
apply b (add new) = (added_to b new).bench
apply b reset = (reset_done b).bench
apply b (slot m) = (slotted b m).bench
apply b (finish_conversion code n) = (conversion_finished b code n).bench
apply b (finish_copy code) = (copy_finished b code).bench
apply b (power_cycle code) = (power_cycled b code).bench
apply b (search places room) = (search_outcome search_rom b places room).bench
apply b (search_alarms places room) = (search_outcome alarm_search b places room).bench
apply b (read code) = (read_at b code).bench
apply b (write code s) = (write_at b code s).bench
apply b (read_pins places) = (pins_outcome b places).found.bench

-- ## What a call enters in the book

-- what an accepted finish of a conversion writes, from the device as the calls before left it
abbrev pub page_of : Device → Sixteenths → Page
page_of d n = record {
  taken = true;
  reading = stored_reading (row_of d.code d.pins) n d.scratchpad;
  high = get_or d.scratchpad high_limit_place 0;
  low = get_or d.scratchpad low_limit_place 0;
}

abbrev pub page_at : Bench → Sixteenths → Place → Page
page_at b n (At i) = page_of (device_at b i) n
page_at b n Nowhere = empty_page

-- a code joins, its page is emptied, its page is written, or nothing
pub data Entry : Type 0 where
  joins : ℕ → Entry
  empties : ℕ → Entry
  writes : ℕ → Page → Entry
  nothing : Entry

abbrev pub if_accepted : Changed → Entry → Entry
if_accepted answer e = if eqb answer.refusal accepted then e else nothing

abbrev pub entry : Bench → Call → Entry
entry b (add new) = if_accepted (added_to b new) (joins new.code)
entry b reset = nothing
entry b (slot m) = nothing
entry b (finish_conversion code n) = if_accepted (conversion_finished b code n) (writes code (page_at b n (place_of b code)))
entry b (finish_copy code) = nothing
entry b (power_cycle code) = if_accepted (power_cycled b code) (empties code)
entry b (search places room) = nothing
entry b (search_alarms places room) = nothing
entry b (read code) = nothing
entry b (write code s) = nothing
entry b (read_pins places) = nothing

-- ## The history

-- the bench, the codes added so far, and the book
pub record Ledger : Type 0 where
  pub bench : Bench
  pub codes : List ℕ
  pub book : ℕ → Page

-- the book with one page replaced
abbrev pub book_with : (ℕ → Page) → ℕ → Page → ℕ → Page
book_with book code p k = if eqb k code then p else book k

abbrev pub codes_after : List ℕ → Entry → List ℕ
codes_after codes (joins code) = codes ++ (code ∷ [])
codes_after codes (empties code) = codes
codes_after codes (writes code p) = codes
codes_after codes nothing = codes

abbrev pub book_after : (ℕ → Page) → Entry → ℕ → Page
book_after book (joins code) = book_with book code empty_page
book_after book (empties code) = book_with book code empty_page
book_after book (writes code p) = book_with book code p
book_after book nothing = book

abbrev pub step : Ledger → Call → Ledger
step l c = record {
  bench = apply l.bench c;
  codes = codes_after l.codes (entry l.bench c);
  book = book_after l.book (entry l.bench c);
}

abbrev pub start : Ledger
start = record { bench = empty_bench; codes = []; book = λ code. empty_page }

unfoldable pub ledger : List Call → Ledger
ledger h = fold step start h

abbrev pub after : List Call → Bench
after h = (ledger h).bench

abbrev pub added : List Call → List ℕ
added h = (ledger h).codes

abbrev pub page : List Call → ℕ → Page
page h code = (ledger h).book code

abbrev pub alarmed : Page → Bool
alarmed p = p.taken && verdict p.reading p.high p.low
