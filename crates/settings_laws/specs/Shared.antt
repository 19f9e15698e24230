-- Runs of calls on one store and one bench, by any callers in any order, refused calls included, and how long a device
-- holds the settings that a store had for it (document 02, E6).
--     SharedCall         a call on the store, a call on the bench, or a settings write: what the store has for a code,
--                        written to the device with that code
--     TypedShared c      its arguments are values of their types
--     Shared             the store, in its book, and the bench
--     onward st h        both after the calls h, from st on; shared h, from the empty ones on
--     Holds b code s     a device of the bench b has the code, and in its scratchpad the settings s: the configuration
--                        in stored form with its own pins, and none where its family has none
--     Spares code st c   the call c, made on st, writes no settings to the device with the code: no accepted write or
--                        settings write at it, no power cycle of it, and no slot by hand in which it takes a bit of a
--                        byte of 4Eh or the last bit of B8h
--     Spared             so each call of a run, where it is made
--     ToTheWire          after an accepted settings write the device holds what the store had, whatever calls follow,
--                        until one that does not spare it
--     RaisedLimit        the story of two callers: both have read a code; one raises its high limit and writes it to
--                        the device; the other, who has not seen that, is refused with 18 whatever it asks, however
--                        late, as long as the store has the code; and the device holds the raised limit beside the low
--                        limit and the configuration that both had read
use Rattle.std.specs.Prelude.{ℕ, Bool, List, [], ◌∷◌, ◌≢◌, ◌≡◌}
use Rattle.basic_laws.specs.Each.{Each}
use Rattle.basic_laws.specs.Fold.{fold}
use Rattle.refusals.specs.Refusals.{accepted, stale_version}
use Rattle.commands.specs.Bytes.{shifted}
use Rattle.commands.specs.Commands.{recall_eeprom}
use Rattle.commands.specs.declared.Shifted.TheVariants.{Whole}
use Rattle.family.specs.Configuration.{kept_configuration}
use Rattle.device.specs.Record.{row_of}
use Rattle.device.specs.Settings.{settings_in}
use Rattle.device.specs.declared.Device.{Device}
use Rattle.device.specs.declared.Settings.{Settings}
use Rattle.device.specs.declared.Stage.{Stage}
use Rattle.device.specs.declared.Stage.TheVariants.{AwaitRom, SendRom, Match, Search, AwaitFunction, TakeSettings}
use Rattle.device.specs.declared.Stage.TheVariants.{SendScratchpad, SendStatus, SendPower, Quiet}
use Rattle.bench.specs.Bench.{empty_bench, place_of}
use Rattle.bench.specs.Calls.{device_at}
use Rattle.bench.specs.Slot.{line_bit}
use Rattle.bench.specs.declared.Bench.{Bench}
use Rattle.bench.specs.declared.Place.TheVariants.{At}
use Rattle.master_rules.specs.Access.{write_at}
use Rattle.history_laws.specs.History.{Call, reset, slot, finish_conversion, finish_copy, power_cycle, search}
use Rattle.history_laws.specs.History.{search_alarms, read_pins, Code64, Byte, Typed, apply}
use Rattle.history_laws.specs.History.{add as addDevice, read as readDevice, write as writeDevice}
use Rattle.settings.specs.Calls.{settings_read, settings_changed}
use Rattle.settings.specs.Runs.{StoreCall, add, remove, read, change, Book, entered, book}
use Rattle.settings.specs.Written.{settings_written}
use Rattle.settings.specs.declared.Alter.{Alter}
use Rattle.settings.specs.declared.Alter.TheVariants.{Leave, To}
use Rattle.settings.specs.declared.Alterations.{Alterations}

-- ## Calls

pub data SharedCall : Type 0 where
  on_store : StoreCall → SharedCall
  on_bench : Call → SharedCall
  settings_write : ℕ → SharedCall

abbrev pub TypedAlter : Alter → Type 0
TypedAlter Leave = Unit
TypedAlter (To byte) = Byte byte

abbrev pub TypedStore : StoreCall → Type 0
TypedStore (add code s) = Code64 code × Byte s.high × Byte s.low × Byte s.configuration
TypedStore (remove code) = Code64 code
TypedStore (read code) = Code64 code
TypedStore (change code version asked) =
    Code64 code × TypedAlter asked.high × TypedAlter asked.low × TypedAlter asked.configuration

abbrev pub TypedShared : SharedCall → Type 0
TypedShared (on_store c) = TypedStore c
TypedShared (on_bench c) = Typed c
TypedShared (settings_write code) = Code64 code

-- ## Runs

pub record Shared : Type 0 where
  pub book : Book
  pub bench : Bench

abbrev pub stepped : Shared → SharedCall → Shared
stepped st (on_store c) = record { book = entered st.book c; bench = st.bench }
stepped st (on_bench c) = record { book = st.book; bench = apply st.bench c }
stepped st (settings_write code) =
    record { book = st.book; bench = (settings_written st.book.store st.bench code).bench }

unfoldable pub onward : Shared → List SharedCall → Shared
onward st h = fold stepped st h

abbrev pub shared : List SharedCall → Shared
shared h = onward (record { book = book []; bench = empty_bench }) h

-- ## What a device holds

abbrev pub settings_of : Device → Settings
settings_of d = settings_in (row_of d.code d.pins) d.scratchpad

-- settings as this device keeps them
abbrev pub kept_by : Device → Settings → Settings
kept_by d s = record {
  high = s.high;
  low = s.low;
  configuration = kept_configuration (row_of d.code d.pins) s.configuration;
}

pub record Holds (b : Bench) (code : ℕ) (s : Settings) : Type 0 where
  pub place : ℕ
  pub at : place_of b code ≡ At place
  pub settings-are : settings_of (device_at b place) ≡ kept_by (device_at b place) s

-- ## Calls that write no settings to a device

-- a slot in which the line shows l, by the stage of the device
abbrev pub SparesStage : Bool → Stage → Type 0
SparesStage l (AwaitRom s n) = Unit
SparesStage l (SendRom i) = Unit
SparesStage l (Match i) = Unit
SparesStage l (Search i p) = Unit
SparesStage l (AwaitFunction s n) = shifted s n l ≢ Whole recall_eeprom
SparesStage l (TakeSettings k s n) = ⊥
SparesStage l (SendScratchpad k j) = Unit
SparesStage l SendStatus = Unit
SparesStage l SendPower = Unit
SparesStage l Quiet = Unit

abbrev pub SparesOnBench : ℕ → Bench → Call → Type 0
SparesOnBench code b (addDevice new) = Unit
SparesOnBench code b reset = Unit
SparesOnBench code b (slot m) =
    (i : ℕ) → place_of b code ≡ At i → SparesStage (line_bit b m) (device_at b i).stage
SparesOnBench code b (finish_conversion k n) = Unit
SparesOnBench code b (finish_copy k) = Unit
SparesOnBench code b (power_cycle k) = k ≢ code
SparesOnBench code b (search places room) = Unit
SparesOnBench code b (search_alarms places room) = Unit
SparesOnBench code b (readDevice k) = Unit
SparesOnBench code b (writeDevice k s) = k ≡ code → (write_at b k s).refusal ≢ accepted
SparesOnBench code b (read_pins places) = Unit

abbrev pub Spares : ℕ → Shared → SharedCall → Type 0
Spares code st (on_store c) = Unit
Spares code st (on_bench c) = SparesOnBench code st.bench c
Spares code st (settings_write k) = k ≡ code → (settings_written st.book.store st.bench k).refusal ≢ accepted

abbrev pub Spared : ℕ → Shared → List SharedCall → Type 0
Spared code st [] = Unit
Spared code st (c ∷ h) = Spares code st c × Spared code (stepped st c) h

-- ## The claim

abbrev pub ToTheWire : Type 0
ToTheWire = (h more : List SharedCall) (code : ℕ) → Each TypedShared h → Code64 code → Each TypedShared more
    → let before = shared h in
    let written = stepped before (settings_write code) in
    (settings_written before.book.store before.bench code).refusal ≡ accepted → Spared code written more
    → Holds (onward written more).bench code (settings_read before.book.store code).settings

-- ## Two callers

abbrev pub raising : ℕ → Alterations
raising limit = record { high = To limit; low = Leave; configuration = Leave }

-- `more` are any calls between, by anybody, that spare the device
abbrev pub RaisedLimit : Type 0
RaisedLimit = (h more : List SharedCall) (code limit : ℕ) (late : Alterations)
    → Each TypedShared h → Each TypedShared more → Code64 code → Byte limit
    → let before = shared h in
    let seen = settings_read before.book.store code in
    let raised = stepped before (on_store (change code seen.version (raising limit))) in
    let written = stepped raised (settings_write code) in
    let later = onward written more in
    (settings_changed before.book.store code seen.version (raising limit)).refusal ≡ accepted
    → (settings_written raised.book.store raised.bench code).refusal ≡ accepted → Spared code written more
    → ((settings_read later.book.store code).refusal ≡ accepted
    → (settings_changed later.book.store code seen.version late).refusal ≡ stale_version)
    × Holds (stepped later (on_store (change code seen.version late))).bench code (record {
      high = limit;
      low = seen.settings.low;
      configuration = seen.settings.configuration;
    })
