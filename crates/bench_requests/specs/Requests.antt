-- What a line asks for: the table of the console's calls, by name, number of fields and request. Whatever matches no
-- row, or has a field that is none, is `Bad`.
--     asks name n ws         whether words are this name and n fields
--     of_bench ws             the calls on the bench
--     of_master ws            the calls of the master
--     request_of s            what a line, without its feed, asks for; a line over 80 characters is `Bad`
use Rattle.std.specs.Prelude.{ℕ, ◌-◌, Bool, ◌&&◌, List, eqb, leb, length}
use Rattle.std.specs.Prelude.{if◌then◌else◌}
use Rattle.text.specs.Ascii.{ascii}
use Rattle.text.specs.declared.NumberRead.{NumberRead}
use Rattle.lines.specs.declared.fields.CountRead.{CountRead}
use Rattle.lines.specs.declared.fields.PowerRead.{PowerRead}
use Rattle.bench_requests.specs.declared.Request.{Request}
use Rattle.bench_requests.specs.declared.Request.TheVariants.{Bad, Add, Reset, Slot, Converted, Copied, Cycle}
use Rattle.bench_requests.specs.declared.Request.TheVariants.{Search, Alarm, Read, Write, Show, Why, Pins}
use Rattle.lines.specs.declared.fields.SettingsRead.{SettingsRead}
use Rattle.basic_laws.specs.Same.{same}
use Rattle.lines.specs.Words.{word_of, words_of}
use Rattle.lines.specs.Fields.{code_in, bit_in, places_in, bytes_in, pins_in, count_in, three_bytes_in, power_in, most_places}
use Rattle.lines.specs.Fields.{most_bytes}

-- ## The requests, by what was read of their fields

abbrev pub slot_asked : NumberRead → Request
slot_asked bit = if bit.valid then Slot (eqb bit.number 1) else Bad

abbrev pub converted_asked : NumberRead → CountRead → Request
converted_asked code count = if code.valid && count.valid then Converted code.number count.count else Bad

-- a request that takes a code alone
abbrev pub at_code : (ℕ → Request) → NumberRead → Request
at_code request code = if code.valid then request code.number else Bad

-- a search that is lent so many places and bytes
abbrev pub lent : (ℕ → ℕ → Request) → NumberRead → NumberRead → Request
lent request places bytes = if places.valid && bytes.valid then request places.number bytes.number else Bad

-- the call for address pins that is lent so many places
abbrev pub pins_asked : NumberRead → Request
pins_asked places = if places.valid then Pins places.number else Bad

abbrev pub write_asked : NumberRead → SettingsRead → Request
write_asked code s = if code.valid && s.valid then Write code.number s.settings else Bad

abbrev pub add_asked : NumberRead → PowerRead → SettingsRead → ℕ → Request
add_asked code power s pins =
    if code.valid && power.valid && s.valid then
    Add record {
      code = code.number;
      power = power.power;
      high = s.settings.high;
      low = s.settings.low;
      configuration = s.settings.configuration;
      pins = pins;
    }
    else Bad

abbrev pub pinned_asked : NumberRead → PowerRead → SettingsRead → NumberRead → Request
pinned_asked code power s pins = if pins.valid then add_asked code power s pins.number else Bad

-- ## The table

abbrev pub asks : List ℕ → ℕ → List (List ℕ) → Bool
asks name n ws = same (word_of ws 0) name && eqb (length ws - 1) n

-- SEARCH and ALARM alone, with all that can be lent, or with PLACES BYTES; READ CODE; WRITE CODE HIGH LOW
-- CONFIGURATION; PINS alone, or with PLACES
unfoldable pub of_master : List (List ℕ) → Request
of_master ws =
    let field = word_of ws in
    if asks (ascii "search") 0 ws then Search most_places most_bytes
    else if asks (ascii "alarm") 0 ws then Alarm most_places most_bytes
    else if asks (ascii "search") 2 ws then lent Search (places_in (field 1)) (bytes_in (field 2))
    else if asks (ascii "alarm") 2 ws then lent Alarm (places_in (field 1)) (bytes_in (field 2))
    else if asks (ascii "read") 1 ws then at_code Read (code_in (field 1))
    else if asks (ascii "write") 4 ws then write_asked (code_in (field 1)) (three_bytes_in (field 2) (field 3) (field 4))
    else if asks (ascii "pins") 0 ws then Pins most_places
    else if asks (ascii "pins") 1 ws then pins_asked (places_in (field 1))
    else Bad

-- ADD CODE POWER HIGH LOW CONFIGURATION, or with PINS, else 0; RESET; SLOT BIT; CONVERTED CODE COUNT; COPIED, CYCLE,
-- SHOW, WHY CODE
unfoldable pub of_bench : List (List ℕ) → Request
of_bench ws =
    let field = word_of ws in
    if asks (ascii "add") 5 ws then add_asked (code_in (field 1)) (power_in (field 2))
    (three_bytes_in (field 3) (field 4) (field 5)) 0
    else if asks (ascii "add") 6 ws then pinned_asked (code_in (field 1)) (power_in (field 2))
    (three_bytes_in (field 3) (field 4) (field 5)) (pins_in (field 6))
    else if asks (ascii "reset") 0 ws then Reset
    else if asks (ascii "slot") 1 ws then slot_asked (bit_in (field 1))
    else if asks (ascii "converted") 2 ws then converted_asked (code_in (field 1)) (count_in (field 2))
    else if asks (ascii "copied") 1 ws then at_code Copied (code_in (field 1))
    else if asks (ascii "cycle") 1 ws then at_code Cycle (code_in (field 1))
    else if asks (ascii "show") 1 ws then at_code Show (code_in (field 1))
    else if asks (ascii "why") 1 ws then at_code Why (code_in (field 1))
    else of_master ws

-- the most characters of a line
abbrev pub longest_request : ℕ
longest_request = 80

unfoldable pub request_of : List ℕ → Request
request_of s = if leb (length s) longest_request then of_bench (words_of s) else Bad
