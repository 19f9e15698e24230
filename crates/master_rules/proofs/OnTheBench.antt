-- A search on the bench (the scope, "The master" and demand 3), by F0h for all devices and by ECh for those whose flag
-- is set. Its slots and resets are the bench's calls, which are refused while a line-powered device is busy; on a bench
-- where none is, none of them is refused in the whole search, `search-calls`, so that the laws of a wire that is never
-- held apply.
--     slot_rule                               the bench as a bus: each slot and reset as it goes where it is not refused
--     calls                                  the same by the calls themselves, which may refuse
--     search_on fuel b, alarm_search_on fuel b  the two searches
--     flagged_codes b                         the codes of the devices whose flag is set, in the order of the devices
-- Laws `search-..` are of F0h, laws `alarm-..` of ECh:
--     ..-calls                               on a bench that is free the calls make the search of the wire
--     ..-listed                              each code is listed once, in order
--     ..-complete                            as many passes as codes, each of 200 slots, and what each shows
--     ..-passes                              the search is the passes of these codes, slot by slot
--     same-but-stage, same-free, restarted-keeps    what goes by the devices without their stages, which a reset keeps
--     alarm-none                             where no flag is set: one pass, of the command and two reads
--     ..-keeps                               no device changes but for its stage
--     ..-free, ..-codes, ..-sound            whether the wire is free, who takes part and what holds of every bench: as
--                                            before
use Rattle.std.specs.Prelude.{ℕ, suc, ◌^◌, ◌<◌, ◌≤◌, ◌≡◌, refl, ◌≢◌, Bool, true, false, not, List, [], ◌∷◌, ◌++◌, map, length}
use Rattle.std.proofs.Common.{sym, ap, ◌∙◌, arith, lit<}
use Rattle.std.proofs.lemmas.List.{length-map}
use Rattle.std.specs.Prelude.{if◌then◌else◌}
use Rattle.basic_laws.specs.Fold.{all}
use Rattle.basic_laws.specs.Bits.{bits_of}
use Rattle.search_laws.specs.Codes.{Code, nobody}
use Rattle.basic_laws.specs.Each.{Each, Distinct, those}
use Rattle.search_laws.specs.Listing.{in_order}
use Rattle.search_laws.specs.Wire.{searched, pass_offers, slots, wire_search}
use Rattle.search_laws.specs.Searchers.{Carries, Searchers, participants}
use Rattle.search_laws.specs.Complete.{Complete, swept_passes}
use Rattle.search_laws.proofs.CompleteLaws.{search_is, search-nobody}
use Rattle.search_laws.specs.Numbers.{Below, Numbered}
use Rattle.search_laws.proofs.NumbersLaws.{numbers-complete, numbers-listed, bits-sized, bits-distinct}
use Rattle.search_laws.specs.Keeps.{Keeps, search-keeps as keeps-search}
use Rattle.search_laws.specs.Holds.{search-holds}
use Rattle.device.specs.Hear.{hear_of}
use Rattle.device.proofs.Laws.{hear-only-stage}
use Rattle.device.specs.Power.{reset_of}
use Rattle.device.specs.declared.Device.{Device}
use Rattle.device.specs.Record.{holds_wire}
use Rattle.bench.specs.Bench.{live, free}
use Rattle.bench.proofs.Laws.{line-live, heard-live, restarted-live, free-live, slot-accepted, reset-accepted}
use Rattle.bench.specs.Slot.{line_bit, heard, slotted, restarted, reset_done}
use Rattle.bench.specs.Sound.{codes_of, BenchSound}
use Rattle.bench.proofs.SoundLaws.{heard-sound, restarted-sound}
use Rattle.bench.specs.declared.Bench.{Bench}
use Rattle.master_rules.specs.Course.{Course, search-same, Runs, pass-runs, unheard-runs}
use Rattle.master_rules.specs.Thermometers.{thermometers, search_bits, alarm_bits, unstaged, Moving, numbers_of}
use Rattle.master_rules.proofs.Thermometers.{everybody}
use Rattle.master_rules.proofs.ThermometersLaws.{everybody-keeps, everybody-course, everybody-codes}
use Rattle.master_rules.proofs.Thermometers.{flagged}
use Rattle.master_rules.proofs.ThermometersLaws.{flagged-keeps, flagged-course, flagged-codes}
use Rattle.master_rules.specs.Buses.{slot_rule, calls}
use Rattle.master_rules.specs.OnTheBench.{Free, alarm_search_on, flagged_codes, search_on}

abbrev pub on_bench : Carries slot_rule thermometers
on_bench = record {
  live = live;
  line-is = λ m b. line-live b m;
  after_is = λ m b. heard-live b (line_bit b m);
  reset-is = restarted-live;
}

-- ## What goes by the devices without their stages

through : {A : Type 0} (f : Device → A) → ((d : Device) → f (unstaged d) ≡ f d) → (ds : List Device)
    → map f (map unstaged ds) ≡ map f ds
through f h [] = refl
through f h (d ∷ ds) = let i = through f h ds in rw (h d, i)

-- whatever a device has besides its stage is the same for each
pub same-but-stage : {A : Type 0} (f : Device → A) → ((d : Device) → f (unstaged d) ≡ f d) → (ds es : List Device)
    → map unstaged ds ≡ map unstaged es
    → map f ds ≡ map f es
same-but-stage f h ds es e = sym (through f h ds) ∙ ap (map f) e ∙ through f h es

wire-unstaged : (ds : List Device) → all (λ d. not (holds_wire d)) (map unstaged ds) ≡ all (λ d. not (holds_wire d)) ds
unfolding all
wire-unstaged [] = refl
wire-unstaged (d ∷ ds) = let i = wire-unstaged ds in rw i

pub same-free : (b c : Bench) → map unstaged (live b) ≡ map unstaged (live c) → free b ≡ free c
same-free b c e =
    free-live b ∙ sym (wire-unstaged (live b)) ∙ ap (all (λ d. not (holds_wire d))) e ∙ wire-unstaged (live c)
    ∙ sym (free-live c)

unstaged-reset : (ds : List Device) → map unstaged (map reset_of ds) ≡ map unstaged ds
unstaged-reset [] = refl
unstaged-reset (d ∷ ds) = let i = unstaged-reset ds in rw i

pub restarted-keeps : (b : Bench) → map unstaged (live (restarted b)) ≡ map unstaged (live b)
restarted-keeps b = ap (map unstaged) (restarted-live b) ∙ unstaged-reset (live b)

-- ## No slot of a search makes a device busy

wire-heard : (l : Bool) (ds : List Device) → Each Moving ds
    → all (λ d. not (holds_wire d)) (map (λ d. hear_of d l) ds) ≡ all (λ d. not (holds_wire d)) ds
unfolding all
wire-heard l [] h = refl
wire-heard l (d ∷ ds) h =
    let i = wire-heard l ds h.1 in
    let e : holds_wire (hear_of d l) ≡ holds_wire d = ap holds_wire (hear-only-stage d l h.0) in
    rw (e, i)

pub free-heard : (b : Bench) (l : Bool) → Each Moving (live b) → free (heard b l) ≡ free b
free-heard b l h = free-live (heard b l) ∙ rw (heard-live b l) (wire-heard l (live b) h) ∙ sym (free-live b)

pub free-restarted : (b : Bench) → free (restarted b) ≡ free b
free-restarted b = same-free (restarted b) b (restarted-keeps b)

module _ {command : List Bool} (Z : Searchers thermometers command 64) (R : Course Z Moving) (b : Bench)
    (f : Free b) where
  -- no slot of a pass is refused
  pub free-pass : (c : Code) → length c ≡ 64 → Runs slot_rule Free (pass_offers command c) (restarted b)
  free-pass c e = pass-runs on_bench Moving Free (λ m c s f. free-heard c (line_bit c m) s ∙ f) (λ c f. free-restarted c
      ∙ f) Z R c b e f

  pub free-unheard : Runs slot_rule Free (command ++ true ∷ true ∷ []) (restarted b)
  free-unheard = unheard-runs on_bench Moving Free (λ m c s f. free-heard c (line_bit c m) s ∙ f) (λ c f. free-restarted c
      ∙ f) Z R b (lit< tt) f

-- ## Either command

some_bits : (ns : List ℕ) → 0 < length ns → nobody (map (bits_of 64) ns) ≡ false
some_bits [] h = absurd (omega arith)
some_bits (n ∷ ns) h = refl

module _ {command : List Bool} (Z : Searchers thermometers command 64) (K : Keeps Z unstaged) (R : Course Z Moving)
    (fuel : ℕ) (b : Bench) where
  calls-search : free b ≡ true → wire_search calls command fuel 64 b ≡ wire_search slot_rule command fuel 64 b
  calls-search h =
      search-same on_bench Z Moving R (λ c. free c ≡ true) (λ m c s f. free-heard c (line_bit c m) s
      ∙ f) (λ c f. free-restarted c ∙ f)
      (λ m c. (slotted c m).line) (λ m c. (slotted c m).bench) (λ c. (reset_done c).bench)
      (λ m c f. ap (λ r. r.line) (slot-accepted c m f)) (λ m c f. ap (λ r. r.bench) (slot-accepted c m f))
      (λ c f. ap (λ r. r.bench) (reset-accepted c f)) fuel b h

  kept : map unstaged (live (wire_search slot_rule command fuel 64 b).devices) ≡ map unstaged (live b)
  kept = keeps-search on_bench Z unstaged K fuel b

  module _ (ns : List ℕ) (e : participants Z (live b)
      ≡ map (bits_of 64) ns) (l : Below 64 ns) (d : Distinct ns) (h : 0 < length ns) (f : length ns ≤ fuel) where
    listed : Numbered 64 ns (wire_search slot_rule command fuel 64 b).codes
    listed = numbers-listed on_bench Z fuel b ns e l d h f

    complete : Complete slot_rule command 64 (map (bits_of 64) ns) b (wire_search slot_rule command fuel 64 b)
    complete = numbers-complete on_bench Z fuel b ns e l d h f

    in-passes : wire_search slot_rule command fuel 64 b ≡ swept_passes slot_rule command (in_order 64 (map (bits_of 64) ns)) b
    in-passes =
        rw e at
        (search_is on_bench Z fuel b (rw e (bits-sized 64 ns)) (rw e (bits-distinct 64 ns l d)) (rw e (some_bits ns h))
        (rw (e, length-map ns (bits_of 64)) f))

-- ## The flags go by the devices without their stages

flagged-unstaged : (ds : List Device) → numbers_of (those (λ d. d.alarm) (map unstaged ds))
    ≡ numbers_of (those (λ d. d.alarm) ds)
unfolding those
flagged-unstaged [] = refl
flagged-unstaged (d ∷ ds) = by-test d.alarm (flagged-unstaged ds)
  where
    by-test : (t : Bool) → numbers_of (those (λ d. d.alarm) (map unstaged ds)) ≡ numbers_of (those (λ d. d.alarm) ds)
        → numbers_of (if t then unstaged d ∷ those (λ d. d.alarm) (map unstaged ds)
        else those (λ d. d.alarm) (map unstaged ds))
        ≡ numbers_of (if t then d ∷ those (λ d. d.alarm) ds else those (λ d. d.alarm) ds)
    by-test true i = rw i
    by-test false i = i

same-flagged : (b c : Bench) → map unstaged (live b) ≡ map unstaged (live c) → flagged_codes b ≡ flagged_codes c
same-flagged b c e =
    sym (flagged-unstaged (live b)) ∙ ap (λ ds. numbers_of (those (λ d. d.alarm) ds)) e ∙ flagged-unstaged (live c)

-- ## The codes of those whose flag is set are some of the codes

-- what holds of each code holds of those of some devices
pub some-each : (P : ℕ → Type 0) (p : Device → Bool) (ds : List Device) → Each P (numbers_of ds)
    → Each P (numbers_of (those p ds))
unfolding those
some-each P p [] h = tt
some-each P p (d ∷ ds) h = by-test (p d) (some-each P p ds h.1)
  where
    by-test : (t : Bool) → Each P (numbers_of (those p ds))
        → Each P (numbers_of (if t then d ∷ those p ds else those p ds))
    by-test true i = (h.0, i)
    by-test false i = i

some-distinct : (p : Device → Bool) (ds : List Device) → Distinct (numbers_of ds) → Distinct (numbers_of (those p ds))
unfolding those
some-distinct p [] h = tt
some-distinct p (d ∷ ds) h = by-test (p d) (some-distinct p ds h.1)
  where
    by-test : (t : Bool) → Distinct (numbers_of (those p ds))
        → Distinct (numbers_of (if t then d ∷ those p ds else those p ds))
    by-test true i = (some-each (λ c. d.code ≢ c) p ds h.0, i)
    by-test false i = i

some-few : (p : Device → Bool) (ds : List Device) → length (numbers_of (those p ds)) ≤ length (numbers_of ds)
unfolding those
some-few p [] = omega arith
some-few p (d ∷ ds) = by-test (p d) (some-few p ds)
  where
    by-test : (t : Bool) → length (numbers_of (those p ds)) ≤ length (numbers_of ds)
        → length (numbers_of (if t then d ∷ those p ds else those p ds)) ≤ suc (length (numbers_of ds))
    by-test true i = omega arith
    by-test false i = omega arith

pub flagged-below : (b : Bench) → Below 64 (codes_of b) → Below 64 (flagged_codes b)
flagged-below b = some-each (λ c. c < 2 ^ 64) (λ d. d.alarm) (live b)

pub flagged-distinct : (b : Bench) → Distinct (codes_of b) → Distinct (flagged_codes b)
flagged-distinct b = some-distinct (λ d. d.alarm) (live b)

pub flagged-few : (b : Bench) → length (flagged_codes b) ≤ length (codes_of b)
flagged-few b = some-few (λ d. d.alarm) (live b)

-- ## F0h

module _ (fuel : ℕ) (b : Bench) where
  pub search-calls : free b ≡ true → wire_search calls search_bits fuel 64 b ≡ search_on fuel b
  search-calls = calls-search everybody everybody-keeps everybody-course fuel b

  pub search-keeps : map unstaged (live (search_on fuel b).devices) ≡ map unstaged (live b)
  search-keeps = kept everybody everybody-keeps everybody-course fuel b

  pub search-free : free (search_on fuel b).devices ≡ free b
  search-free = same-free (search_on fuel b).devices b search-keeps

  pub search-sound : BenchSound b → BenchSound (search_on fuel b).devices
  search-sound = search-holds slot_rule BenchSound (λ m c. heard-sound c (line_bit c m)) restarted-sound search_bits 64
      fuel b

  pub search-codes : codes_of (search_on fuel b).devices ≡ codes_of b
  search-codes = same-but-stage (λ d. d.code) (λ d. refl) (live (search_on fuel b).devices) (live b) search-keeps

  module _ (l : Below 64 (codes_of b)) (d : Distinct (codes_of b)) (h : 0 < length (codes_of b))
      (f : length (codes_of b) ≤ fuel) where
    pub search-listed : Numbered 64 (codes_of b) (search_on fuel b).codes
    search-listed = listed everybody everybody-keeps everybody-course fuel b (codes_of b) (everybody-codes (live b))
        l d h f

    pub search-complete : Complete slot_rule search_bits 64 (map (bits_of 64) (codes_of b)) b (search_on fuel b)
    search-complete = complete everybody everybody-keeps everybody-course fuel b (codes_of b) (everybody-codes (live b))
        l d h f

    pub search-passes : search_on fuel b ≡ swept_passes slot_rule search_bits (in_order 64 (map (bits_of 64) (codes_of b))) b
    search-passes = in-passes everybody everybody-keeps everybody-course fuel b (codes_of b) (everybody-codes (live b))
        l d h f

-- ## ECh

module _ (fuel : ℕ) (b : Bench) where
  pub alarm-calls : free b ≡ true → wire_search calls alarm_bits fuel 64 b ≡ alarm_search_on fuel b
  alarm-calls = calls-search flagged flagged-keeps flagged-course fuel b

  pub alarm-keeps : map unstaged (live (alarm_search_on fuel b).devices) ≡ map unstaged (live b)
  alarm-keeps = kept flagged flagged-keeps flagged-course fuel b

  pub alarm-free : free (alarm_search_on fuel b).devices ≡ free b
  alarm-free = same-free (alarm_search_on fuel b).devices b alarm-keeps

  pub alarm-sound : BenchSound b → BenchSound (alarm_search_on fuel b).devices
  alarm-sound = search-holds slot_rule BenchSound (λ m c. heard-sound c (line_bit c m)) restarted-sound alarm_bits 64
      fuel b

  pub alarm-codes : flagged_codes (alarm_search_on fuel b).devices ≡ flagged_codes b
  alarm-codes = same-flagged (alarm_search_on fuel b).devices b alarm-keeps

  module _ (l : Below 64 (codes_of b)) (d : Distinct (codes_of b)) (h : 0 < length (flagged_codes b))
      (f : length (flagged_codes b) ≤ fuel) where
    pub alarm-listed : Numbered 64 (flagged_codes b) (alarm_search_on fuel b).codes
    alarm-listed =
        listed flagged flagged-keeps flagged-course fuel b (flagged_codes b) (flagged-codes (live b)) (flagged-below b l)
        (flagged-distinct b d) h f

    pub alarm-complete : Complete slot_rule alarm_bits 64 (map (bits_of 64) (flagged_codes b)) b (alarm_search_on fuel b)
    alarm-complete =
        complete flagged flagged-keeps flagged-course fuel b (flagged_codes b) (flagged-codes (live b))
        (flagged-below b l) (flagged-distinct b d) h f

    pub alarm-passes : alarm_search_on fuel b ≡ swept_passes slot_rule alarm_bits
        (in_order 64 (map (bits_of 64) (flagged_codes b))) b
    alarm-passes =
        in-passes flagged flagged-keeps flagged-course fuel b (flagged_codes b) (flagged-codes (live b))
        (flagged-below b l) (flagged-distinct b d) h f

  pub alarm-none : flagged_codes b ≡ []
      → alarm_search_on (suc fuel) b
      ≡ searched [] ((alarm_bits ++ true ∷ true ∷ []) ∷ [])
      (slots slot_rule (alarm_bits ++ true ∷ true ∷ []) (restarted b)).devices
  alarm-none e = search-nobody on_bench flagged fuel b (lit< tt) (flagged-codes (live b) ∙ rw e)
