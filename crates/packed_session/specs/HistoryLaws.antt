-- Every bench that calls have made is one that a table can hold.
--     after-tabled       after every history, refused calls included
use Rattle.std.specs.Prelude.{List, [], ◌∷◌}
use Rattle.basic_laws.specs.Fold.{fold}
use Rattle.commands.specs.Commands.{search_rom, alarm_search}
use Rattle.bench.specs.declared.Bench.{Bench}
use Rattle.history_laws.specs.History.{Call, add, reset, slot, finish_conversion, finish_copy, power_cycle, search}
use Rattle.history_laws.specs.History.{search_alarms, read, write, read_pins, Ledger, apply, step, start, ledger, after}
use Rattle.history_laws.specs.Kept.{read_keeps, write_keeps, outcome-keeps, pins-keep}
use Rattle.packed_bench.specs.Tabled.{Tabled}
use Rattle.packed_bench.specs.RunsLaws.{empty-tabled}
use Rattle.packed_bench.specs.ThroughLaws.{slot-keeps, reset-keeps, added-keeps, conversion-keeps, copy-keeps}
use Rattle.packed_bench.specs.ThroughLaws.{cycle-keeps}

tabled_step : (b : Bench) (c : Call) → Tabled b → Tabled (apply b c)
tabled_step b (add new) t = added-keeps new b t
tabled_step b reset t = reset-keeps b t
tabled_step b (slot m) t = slot-keeps m b t
tabled_step b (finish_conversion code n) t = conversion-keeps code n b t
tabled_step b (finish_copy code) t = copy-keeps code b t
tabled_step b (power_cycle code) t = cycle-keeps code b t
tabled_step b (search places room) t = outcome-keeps Tabled slot-keeps reset-keeps search_rom b places room t
tabled_step b (search_alarms places room) t = outcome-keeps Tabled slot-keeps reset-keeps alarm_search b places room t
tabled_step b (read code) t = read_keeps Tabled slot-keeps reset-keeps code b t
tabled_step b (write code s) t = write_keeps Tabled slot-keeps reset-keeps code s b t
tabled_step b (read_pins places) t = pins-keep Tabled slot-keeps reset-keeps b places t

tabled-from : (h : List Call) (l : Ledger) → Tabled l.bench → Tabled (fold step l h).bench
unfolding fold
tabled-from [] l t = t
tabled-from (c ∷ h) l t = tabled-from h (step l c) (tabled_step l.bench c t)

pub after-tabled : (h : List Call) → Tabled (after h)
unfolding ledger
after-tabled h = tabled-from h start empty-tabled
