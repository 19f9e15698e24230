-- What follows from demand 3's invariant, each in words that a user may want:
--     devices-are        there are as many devices on the bench as accepted addings
--     bench-is-sound     at most 32 devices, codes sound and different, configurations in stored form, readings in
--                        range
--     flags-are          a device's flag is set exactly where its page in the book has the verdict
--     search-again       a search right after a search lists the same codes, and an alarm search right after an alarm
--                        search
use Rattle.std.specs.Prelude.{ℕ, ◌<◌, ◌≤◌, true, List, [], ◌∷◌, map, ◌≡◌, refl, length}
use Rattle.std.proofs.Common.{sym, ap, ◌∙◌, arith}
use Rattle.basic_laws.specs.Bits.{bits_of}
use Rattle.commands.specs.Commands.{search_rom, alarm_search}
use Rattle.basic_laws.specs.Each.{Each}
use Rattle.search_laws.specs.Listing.{in_order}
use Rattle.search_laws.specs.Numbers.{Below}
use Rattle.device.specs.Sound.{Sound}
use Rattle.device.specs.declared.Device.{Device}
use Rattle.device.specs.declared.Page.{Page}
use Rattle.bench.specs.Bench.{live, free}
use Rattle.bench.specs.Sound.{codes_of, BenchSound}
use Rattle.bench.proofs.SoundLaws.{codes-count}
use Rattle.bench.specs.declared.Bench.{Bench}
use Rattle.master_rules.specs.OnTheBench as bench
use Rattle.master_rules.proofs.OnTheBench as wired
use Rattle.master_rules.specs.OnTheBench.{flagged_codes}
use Rattle.master_rules.specs.Search.{most_passes, search_run}
use Rattle.history_laws.specs.History.{Call, Typed, ledger, after, added, page, alarmed}
use Rattle.history_laws.specs.Reached.{PagesAre}
use Rattle.history_laws.proofs.Reached.{reached-after}

module _ (h : List Call) (t : Each Typed h) where
  pub bench-is-sound : BenchSound (after h)
  bench-is-sound = (reached-after h t).sound

  pub codes-are-added : codes_of (after h) ≡ added h
  codes-are-added = (reached-after h t).marked.codes-are

  pub devices-are : length (added h) ≡ (after h).count
  devices-are = let s = bench-is-sound in sym (ap length codes-are-added) ∙ codes-count (after h) s.places s.few

flags-by-pages : (book : ℕ → Page) (ds : List Device) → Each Sound ds → PagesAre book ds
    → Each (λ d. d.alarm ≡ alarmed (book d.code)) ds
flags-by-pages book [] s p = tt
flags-by-pages book (d ∷ ds) s p = (s.0.flag_is ∙ ap alarmed p.0, flags-by-pages book ds s.1 p.1)

pub flags-are : (h : List Call) → Each Typed h → Each (λ d. d.alarm ≡ alarmed (page h d.code)) (live (after h))
flags-are h t =
    let r = reached-after h t in
    flags-by-pages (ledger h).book (live (after h)) r.sound.devices-sound r.marked.pages-are

-- ## A search after a search

module _ (b : Bench) (s : BenchSound b) (f : free b ≡ true) (l : Below 64 (codes_of b)) where
  few-codes : length (codes_of b) ≤ most_passes
  few-codes = rw (codes-count b s.places s.few) s.few

  -- where there is a device
  pub search-lists : 0 < length (codes_of b) → (search_run search_rom b).codes ≡ in_order 64 (map (bits_of 64) (codes_of b))
  search-lists h = ap (λ r. r.codes) (wired.search-calls most_passes b f
      ∙ wired.search-passes most_passes b l s.codes-distinct h few-codes)

  pub alarm-lists : 0 < length (flagged_codes b)
      → (search_run alarm_search b).codes ≡ in_order 64 (map (bits_of 64) (flagged_codes b))
  alarm-lists h =
      let few = wired.flagged-few b in
      let most = few-codes in
      let k : length (flagged_codes b) ≤ most_passes = omega arith in
      ap (λ r. r.codes) (wired.alarm-calls most_passes b f ∙ wired.alarm-passes most_passes b l s.codes-distinct h k)

pub search-again : (b : Bench) → BenchSound b → free b ≡ true → Below 64 (codes_of b) → 0 < length (codes_of b)
    → (search_run search_rom (search_run search_rom b).devices).codes ≡ (search_run search_rom b).codes
search-again b s f l h =
    let c = (search_run search_rom b).devices in
    let is : c ≡ (bench.search_on most_passes b).devices = ap (λ r. r.devices) (wired.search-calls most_passes b f) in
    let same : codes_of c ≡ codes_of b = ap codes_of is ∙ wired.search-codes most_passes b in
    let g : free c ≡ true = ap free is ∙ wired.search-free most_passes b ∙ f in
    let t : BenchSound c = rw is (wired.search-sound most_passes b s) in
    search-lists c t g (rw same l) (rw same h) ∙ ap (λ cs. in_order 64 (map (bits_of 64) cs)) same
    ∙ sym (search-lists b s f l h)

pub alarm-search-again : (b : Bench) → BenchSound b → free b ≡ true → Below 64 (codes_of b) → 0 < length (flagged_codes b)
    → (search_run alarm_search (search_run alarm_search b).devices).codes ≡ (search_run alarm_search b).codes
alarm-search-again b s f l h =
    let c = (search_run alarm_search b).devices in
    let is : c ≡ (bench.alarm_search_on most_passes b).devices = ap (λ r. r.devices) (wired.alarm-calls most_passes b f) in
    let same : flagged_codes c ≡ flagged_codes b = ap flagged_codes is ∙ wired.alarm-codes most_passes b in
    let codes : codes_of c ≡ codes_of b = ap codes_of is
    ∙ wired.same-but-stage (λ d. d.code) (λ d. refl) (live (bench.alarm_search_on most_passes b).devices) (live b)
    (wired.alarm-keeps most_passes b) in
    let g : free c ≡ true = ap free is ∙ wired.alarm-free most_passes b ∙ f in
    let t : BenchSound c = rw is (wired.alarm-sound most_passes b s) in
    alarm-lists c t g (rw codes l) (rw same h) ∙ ap (λ cs. in_order 64 (map (bits_of 64) cs)) same
    ∙ sym (alarm-lists b s f l h)
