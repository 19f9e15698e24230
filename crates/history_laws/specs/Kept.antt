-- What every slot and every reset keeps, the master's calls keep: they make resets and slots, and nothing else, whether
-- they are refused or not.
--     read_keeps, write_keeps, outcome-keeps, pins-keep
--     written_keeps      and so does the sending of settings
use Rattle.std.specs.Prelude.{ℕ, Bool, ◌&&◌, ◌||◌, eqb}
use Rattle.std.proofs.Math.Bool.{true, false, not}
use Rattle.std.proofs.Math.Dec.{ltb}
use mathlib.Core.List.{List, [], ◌∷◌}
use Rattle.basic_laws.specs.Fold.{fold}
use Rattle.std.specs.Prelude.{if◌then◌else◌}
use Rattle.basic_laws.specs.Bits.{bits_of}
use Rattle.commands.specs.Commands.{read_scratchpad, write_scratchpad, search_rom}
use Rattle.refusals.specs.Refusals.{accepted, no_room, wire_busy}
use Rattle.family.specs.Families.{properties_of}
use Rattle.family.specs.declared.Properties.{Properties}
use Rattle.rom.specs.Code.{family_of}
use Rattle.scratchpad.specs.Judgement.{judged}
use Rattle.search_laws.specs.Reads.{read_slots}
use Rattle.search_laws.specs.Holds.{slots-hold, search-holds}
use Rattle.device.specs.declared.Settings.{Settings}
use Rattle.bench.specs.Bench.{free}
use Rattle.bench.specs.Slot.{slotted, reset_done}
use Rattle.bench.specs.declared.Bench.{Bench}
use Rattle.master_rules.specs.declared.Access.{Access}
use Rattle.master_rules.specs.Buses.{calls}
use Rattle.master_rules.specs.Wire.{sent}
use Rattle.master_rules.specs.Access.{addressed, bytes_shown, after_slots, fetched, on_presence, read_back, admission}
use Rattle.master_rules.specs.Access.{read_at, settings_sent, as_asked, written_and_read, write_at}
use Rattle.master_rules.specs.Pins.{is_pinned, PinsFound, nobody_read, pins_step, PinsOutcome, pins_outcome}
use Rattle.master_rules.specs.Search.{fewest_places, fewest_bytes, code_length, most_passes, refused_outcome, lonely_outcome}
use Rattle.master_rules.specs.Search.{found_outcome, search_run, search_outcome}

module _ (Q : Bench → Type 0) (by-slot : (m : Bool) (b : Bench) → Q b → Q (slotted b m).bench) (by-reset : (b : Bench)
    → Q b → Q (reset_done b).bench) where
  sent-keeps : (n x : ℕ) (b : Bench) → Q b → Q (sent n x b)
  sent-keeps n x b q = slots-hold calls Q by-slot (bits_of n x) b q

  addressed-keeps : (code command : ℕ) (b : Bench) → Q b → Q (addressed code command b)
  unfolding addressed
  addressed-keeps code command b q = sent-keeps 8 command _ (sent-keeps 64 code _ (sent-keeps 8 _ b q))

  replied-keeps : (b : Bench) → Q b → Q (after_slots 72 b)
  replied-keeps b q = slots-hold calls Q by-slot (read_slots 72) b q

  -- a choice between two answers with the same bench
  either : (t : Bool) (x y : Access) → Q x.bench → Q y.bench → Q (if t then x else y).bench
  either true x y p q = p
  either false x y p q = q

  fetched-keeps : (code : ℕ) (b : Bench) → Q b → Q (fetched code b).bench
  unfolding fetched
  fetched-keeps code b q =
      let r = replied-keeps _ (addressed-keeps code read_scratchpad b q) in
      either (eqb (judged (family_of code) (bytes_shown 9 (addressed code read_scratchpad b))).refusal accepted) _ _ r r

  presence-keeps : (go : Bench → Access) → ((b : Bench) → Q b → Q (go b).bench) → (b : Bench) → Q b
      → Q (on_presence (reset_done b) go).bench
  presence-keeps go h b q = either (reset_done b).presence _ _ (h _ (by-reset b q)) (by-reset b q)

  read-back-keeps : (code : ℕ) (b : Bench) → Q b → Q (read_back code b).bench
  unfolding read_back
  read-back-keeps code b q = presence-keeps (fetched code) (fetched-keeps code) b q

  pub read_keeps : (code : ℕ) (b : Bench) → Q b → Q (read_at b code).bench
  unfolding read_at
  read_keeps code b q = either (not (eqb (admission b code) accepted)) _ _ q (read-back-keeps code b q)

  chosen : (t : Bool) (a b : Bench) → Q a → Q b → Q (if t then a else b)
  chosen true a b p q = p
  chosen false a b p q = q

  pub written_keeps : (row : Properties) (code : ℕ) (s : Settings) (b : Bench) → Q b → Q (settings_sent row code s b)
  unfolding settings_sent
  written_keeps row code s b q =
      let l = sent-keeps 8 s.low _ (sent-keeps 8 s.high _ (addressed-keeps code write_scratchpad b q)) in
      chosen row.configurable _ _ (sent-keeps 8 s.configuration _ l) l

  written-and-read-keeps : (code : ℕ) (s : Settings) (b : Bench) → Q b → Q (written_and_read code s b).bench
  unfolding written_and_read
  written-and-read-keeps code s b q =
      let row = properties_of (family_of code) in
      let r = read-back-keeps code _ (written_keeps row code s b q) in
      either (eqb (read_back code (settings_sent row code s b)).refusal accepted
      && not (as_asked row s (read_back code (settings_sent row code s b)).pad)) _ _ r r

  pub write_keeps : (code : ℕ) (s : Settings) (b : Bench) → Q b → Q (write_at b code s).bench
  unfolding write_at
  write_keeps code s b q =
      either (not (eqb (admission b code) accepted)) _ _ q
      (presence-keeps (written_and_read code s) (written-and-read-keeps code s) b q)

  pub outcome-keeps : (command : ℕ) (b : Bench) (places room : ℕ) → Q b → Q (search_outcome command b places room).bench
  unfolding search_outcome
  outcome-keeps command b places room q =
      by_tests (ltb places fewest_places || ltb room fewest_bytes) (not (free b)) (not (reset_done b).presence)
    where
      by_tests : (t u v : Bool)
          → Q (if t then refused_outcome no_room b else if u then refused_outcome wire_busy b else if v
          then lonely_outcome (reset_done b).bench else found_outcome (search_run command b)).bench
      by_tests true u v = q
      by_tests false true v = q
      by_tests false false true = by-reset b q
      by_tests false false false = search-holds calls Q by-slot by-reset (bits_of 8 command) code_length most_passes b q

  -- the reads at the codes of a search
  found-either : (t : Bool) (x y : PinsFound) → Q x.bench → Q y.bench → Q (if t then x else y).bench
  found-either true x y p q = p
  found-either false x y p q = q

  pins-read-keep : (listed : List ℕ) (f : PinsFound) → Q f.bench → Q (fold pins_step f listed).bench
  unfolding fold
  pins-read-keep [] f q = q
  pins-read-keep (c ∷ cs) f q =
      let r = read_keeps c f.bench q in
      pins-read-keep cs (pins_step f c) (found-either (is_pinned c) _ f
      (found-either (eqb (read_at f.bench c).refusal accepted) _ _ r r) q)

  outcome-either : (t : Bool) (x y : PinsOutcome) → Q x.found.bench → Q y.found.bench
      → Q (if t then x else y).found.bench
  outcome-either true x y p q = p
  outcome-either false x y p q = q

  pub pins-keep : (b : Bench) (places : ℕ) → Q b → Q (pins_outcome b places).found.bench
  unfolding pins_outcome
  pins-keep b places q =
      let o = search_outcome search_rom b fewest_places fewest_bytes in
      let r = outcome-keeps search_rom b fewest_places fewest_bytes q in
      outcome-either (ltb places fewest_places) _ _ q
      (outcome-either (eqb o.refusal accepted) _ _ (pins-read-keep o.listed (nobody_read o.bench) r) r)
