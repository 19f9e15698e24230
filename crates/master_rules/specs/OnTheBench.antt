-- A search on the bench (the scope, "The master" and demand 3), by F0h for all devices and by ECh for those whose flag
-- is set. Its slots and resets are the bench's calls, which are refused while a line-powered device is busy; on a bench
-- where none is, none of them is refused in the whole search, `search-calls`, so that the laws of a wire that is never
-- held apply.
--     slot_rule                               the bench as a bus: each slot and reset as it goes where it is not refused
--     calls                                  the same by the calls themselves, which may refuse
--     search_on fuel b, alarm_search_on fuel b  the two searches
--     flagged_codes b                         the codes of the devices whose flag is set, in the order of the devices
-- Laws `search-..` are of F0h, laws `alarm-..` of ECh:
--     ..-calls                               on a bench that is free the calls make the search of the wire
--     ..-listed                              each code is listed once, in order
--     ..-complete                            as many passes as codes, each of 200 slots, and what each shows
--     ..-passes                              the search is the passes of these codes, slot by slot
--     same-but-stage, same-free, restarted-keeps    what goes by the devices without their stages, which a reset keeps
--     alarm-none                             where no flag is set: one pass, of the command and two reads
--     ..-keeps                               no device changes but for its stage
--     ..-free, ..-codes, ..-sound            whether the wire is free, who takes part and what holds of every bench: as
--                                            before
use Rattle.std.specs.Prelude.{ℕ, ◌≡◌, true, List}
use Rattle.basic_laws.specs.Each.{those}
use Rattle.search_laws.specs.Wire.{Search, wire_search}
use Rattle.bench.specs.Bench.{live, free}
use Rattle.bench.specs.declared.Bench.{Bench}
use Rattle.master_rules.specs.Thermometers.{search_bits, alarm_bits, numbers_of}
use Rattle.master_rules.specs.Buses.{slot_rule}

-- the searches, of at most `fuel` passes
abbrev pub search_on : ℕ → Bench → Search Bench
search_on fuel b = wire_search slot_rule search_bits fuel 64 b

abbrev pub alarm_search_on : ℕ → Bench → Search Bench
alarm_search_on fuel b = wire_search slot_rule alarm_bits fuel 64 b

abbrev pub flagged_codes : Bench → List ℕ
flagged_codes b = numbers_of (those (λ d. d.alarm) (live b))

abbrev pub Free : Bench → Type 0
Free b = free b ≡ true
