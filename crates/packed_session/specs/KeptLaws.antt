-- Every line of the bench's console leaves a bench that a table can hold.
--     answered-keeps     after each request, refused or not
use Rattle.commands.specs.Commands.{search_rom, alarm_search}
use Rattle.bench.specs.declared.Bench.{Bench}
use Rattle.history_laws.specs.Kept.{read_keeps, write_keeps, outcome-keeps, pins-keep}
use Rattle.bench_requests.specs.declared.Request.{Request}
use Rattle.bench_requests.specs.declared.Request.TheVariants.{Bad, Add, Reset, Slot, Converted, Copied, Cycle, Search}
use Rattle.bench_requests.specs.declared.Request.TheVariants.{Alarm, Read, Write, Show, Why, Pins}
use Rattle.bench_session.specs.Console.{answered}
use Rattle.packed_bench.specs.Tabled.{Tabled}
use Rattle.packed_bench.specs.ThroughLaws.{slot-keeps, reset-keeps, added-keeps, conversion-keeps, copy-keeps}
use Rattle.packed_bench.specs.ThroughLaws.{cycle-keeps}

pub answered-keeps : (q : Request) (b : Bench) → Tabled b → Tabled (answered b q).bench
unfolding answered
answered-keeps Bad b t = t
answered-keeps (Add new) b t = added-keeps new b t
answered-keeps Reset b t = reset-keeps b t
answered-keeps (Slot bit) b t = slot-keeps bit b t
answered-keeps (Converted code count) b t = conversion-keeps code count b t
answered-keeps (Copied code) b t = copy-keeps code b t
answered-keeps (Cycle code) b t = cycle-keeps code b t
answered-keeps (Search places bytes) b t = outcome-keeps Tabled slot-keeps reset-keeps search_rom b places bytes t
answered-keeps (Alarm places bytes) b t = outcome-keeps Tabled slot-keeps reset-keeps alarm_search b places bytes t
answered-keeps (Read code) b t = read_keeps Tabled slot-keeps reset-keeps code b t
answered-keeps (Write code settings) b t = write_keeps Tabled slot-keeps reset-keeps code settings b t
answered-keeps (Show code) b t = t
answered-keeps (Why code) b t = t
answered-keeps (Pins places) b t = pins-keep Tabled slot-keeps reset-keeps b places t
