-- Both claims hold: `by-the-book` and `listed-by-reason`. The invariant of the histories gives each device's page from
-- the book and the codes on the bench from the addings, so that the device with a code is found exactly where the code
-- was added. A page's reason is high, low or both exactly where the page has the verdict.
use Rattle.std.specs.Prelude.{ℕ, zero, suc, ◌<◌, Bool, true, false, ◌||◌, ◌≢◌, ◌≡◌, refl, eqb, length, get_or}
use mathlib.Core.List.{List, [], ◌∷◌, map, Permᴰ}
use Rattle.std.proofs.Common.{sym, ◌∙◌, arith, eq-eqb, ne_eqb}
use Rattle.std.proofs.Math.Path.{ap}
use Rattle.std.specs.Int.Signed.{le_z}
use Rattle.std.specs.Prelude.{if◌then◌else◌}
use Rattle.basic_laws.specs.Each.{Each, those}
use Rattle.basic_laws.specs.EachLaws.{each-implies, each_at, those-same}
use Rattle.commands.specs.Commands.{alarm_search}
use Rattle.refusals.specs.Refusals.{accepted}
use Rattle.rom.specs.Code.{code_refusal, sound}
use Rattle.temperature.specs.Alarm.{limit_of, alarms_at}
use Rattle.temperature.specs.Units.{whole_of}
use Rattle.temperature.specs.declared.WholeDegrees.{WholeDegrees}
use Rattle.device.specs.declared.Device.{Device}
use Rattle.device.specs.declared.Page.{Page}
use Rattle.bench.specs.Bench.{live, vacant, place_of}
use Rattle.bench.specs.Calls.{device_at, looked, looked_at}
use Rattle.bench.specs.declared.Bench.{Bench}
use Rattle.bench.specs.declared.Place.{Place}
use Rattle.bench.specs.declared.Place.TheVariants.{At, Nowhere}
use Rattle.bench.proofs.Laws.{place-live, place_found, place-nowhere, device-live}
use Rattle.bench.specs.Sound.{codes_of}
use Rattle.master_rules.specs.Search.{Outcome, search_outcome}
use Rattle.history_laws.specs.Demand.{alarms, Comes}
use Rattle.history_laws.specs.History.{Call, Typed, after, added, page, alarmed}
use Rattle.history_laws.proofs.Reached.{reached-after}
use Rattle.history_laws.proofs.Theorem.{demand-3}
use Rattle.why.specs.Why.{band_of, on_the_list, silent, told_by, why_at, why_of}
use Rattle.why.specs.Book.{is_among, pad_of, by_book, ByTheBook, ListedByReason, WhyPromise}
use Rattle.why.specs.declared.rules.Reason.TheVariants.{NotOnBench, InBand, High, Low, Both}
use Rattle.why.specs.declared.rules.Why.{Why}

-- ## Whether a code was added

among-at : (code : ℕ) (ds : List Device) (i : ℕ) → i < length ds → (get_or ds i vacant).code ≡ code
    → is_among code (map (λ d. d.code) ds) ≡ true
among-at code [] i h e = absurd (omega arith)
among-at code (d ∷ ds) zero h e = rw (eq-eqb d.code code e)
among-at code (d ∷ ds) (suc i) h e = by-test (eqb d.code code) (among-at code ds i (omega arith) e)
  where
    by-test : (t : Bool) → is_among code (map (λ d. d.code) ds) ≡ true
        → (t || is_among code (map (λ d. d.code) ds)) ≡ true
    by-test true e = refl
    by-test false e = e

among_none : (code : ℕ) (ds : List Device) → Each (λ d. d.code ≢ code) ds
    → is_among code (map (λ d. d.code) ds) ≡ false
among_none code [] h = refl
among_none code (d ∷ ds) h = rw (ne_eqb d.code code h.0) (among_none code ds h.1)

-- ## By the book

module _ (h : List Call) (t : Each Typed h) where
  -- the page of the device at a place is the book's
  page-at : (code i : ℕ) → place_of (after h) code ≡ At i → (device_at (after h) i).page ≡ page h code
  page-at code i e =
      let b = after h in
      let marked = (reached-after h t).marked in
      let same = device-live b code i e in
      let own = each_at (λ d. d.page ≡ page h d.code) (live b) i vacant (place-live b code i e)
      marked.pages-are in
      ap (λ (d : Device). d.page) (sym same) ∙ own ∙ ap (page h) (place_found b code i e)

  among-added : (code : ℕ) (u : Bool) → is_among code (codes_of (after h)) ≡ u → is_among code (added h) ≡ u
  among-added code u e = ap (is_among code) (sym (reached-after h t).marked.codes-are) ∙ e

  pad-at : (code i : ℕ) → place_of (after h) code ≡ At i → pad_of (after h) code ≡ (device_at (after h) i).scratchpad
  unfolding looked
  pad-at code i e = ap (λ (p : Place). (looked_at (after h) p).device.scratchpad) e

  found-by-book : (code : ℕ) → why_at (after h) (place_of (after h) code)
      ≡ (if is_among code (added h) then told_by (page h code) (pad_of (after h) code) else silent accepted NotOnBench)
  found-by-book code = by_place (place_of (after h) code) refl
    where
      by_place : (p : Place) → place_of (after h) code ≡ p
          → why_at (after h) p ≡ (if is_among code (added h) then told_by (page h code) (pad_of (after h) code)
          else silent accepted NotOnBench)
      by_place (At i) e =
          let among = among-added code true (among-at code (live (after h)) i (place-live (after h) code i e)
          (place_found (after h) code i e)) in
          rw (among, pad-at code i e) (ap (λ (p : Page). told_by p (device_at (after h) i).scratchpad)
          (page-at code i e))
      by_place Nowhere e = rw (among-added code false
          (among_none code (live (after h)) (place-nowhere (after h) code e))) refl

pub by-the-book : ByTheBook
unfolding why_of
by-the-book h t code = ap (λ (w : Why). if sound code then w
    else silent (code_refusal code) NotOnBench) (found-by-book h t code)

-- as the call promises it
pub why-promised : (b : Bench) (code : ℕ) (r : Why) → r ≡ why_of b code → WhyPromise b code r
why-promised b code r is h t e = is ∙ ap (λ (c : Bench). why_of c code) (sym e) ∙ by-the-book h t code

-- ## The list of an alarm search

band-alarms : (t high low : WholeDegrees) → on_the_list (band_of t high low) ≡ alarms_at t high low
band-alarms t high low = by_tests (le_z high.0 t.0) (le_z t.0 low.0)
  where
    by_tests : (u v : Bool) → on_the_list (if u then if v then Both else High else if v then Low else InBand) ≡ (u || v)
    by_tests true true = refl
    by_tests true false = refl
    by_tests false true = refl
    by_tests false false = refl

-- a page's reason puts its code on the list exactly where the page has the verdict
said-alarmed : (p : Page) (pad : List ℕ) → on_the_list (told_by p pad).reason ≡ alarmed p
unfolding told_by
said-alarmed p pad = by-test p.taken refl
  where
    by-test : (u : Bool) → p.taken ≡ u → on_the_list (told_by p pad).reason ≡ alarmed p
    by-test true e = rw e (band-alarms (whole_of p.reading) (limit_of p.high) (limit_of p.low))
    by-test false e = rw e refl

each-among : (l : List ℕ) → Each (λ code. is_among code l ≡ true) l
each-among [] = tt
each-among (c ∷ l) = (
  rw (eq-eqb c c refl),
  each-implies (λ (code : ℕ) (e : is_among code l ≡ true). later code (eqb c code) e) l (each-among l),
)
  where
    later : (code : ℕ) (u : Bool) → is_among code l ≡ true → (u || is_among code l) ≡ true
    later code true e = refl
    later code false e = e

module _ (h : List Call) (t : Each Typed h) where
  on-the-list : (code : ℕ) → sound code ≡ true → is_among code (added h) ≡ true
      → on_the_list (why_of (after h) code).reason ≡ alarmed (page h code)
  on-the-list code s a =
      let is : by_book h code ≡ told_by (page h code) (pad_of (after h) code) = rw (s, a) refl in
      ap (λ (w : Why). on_the_list w.reason) (by-the-book h t code ∙ is)
      ∙ said-alarmed (page h code) (pad_of (after h) code)

  codes-sound : Each (λ code. sound code ≡ true) (added h)
  codes-sound = let r = reached-after h t in rw r.marked.codes-are at r.sound.codes-sound

  reasons-are : (l : List ℕ) → Each (λ code. sound code ≡ true) l → Each (λ code. is_among code (added h) ≡ true) l
      → Each (λ code. on_the_list (why_of (after h) code).reason ≡ alarmed (page h code)) l
  reasons-are [] s a = tt
  reasons-are (c ∷ l) s a = (on-the-list c s.0 a.0, reasons-are l s.1 a.1)

  -- the codes with one of these reasons are the book's alarms
  pub reasons-alarms : those (λ code. on_the_list (why_of (after h) code).reason) (added h) ≡ alarms h
  reasons-alarms = those-same (λ code. on_the_list (why_of (after h) code).reason) (λ code. alarmed (page h code))
      (added h) (reasons-are (added h) codes-sound (each-among (added h)))

-- whichever way a search ends, it lists the codes that it is to list
comes-lists : (command : ℕ) (everybody codes : List ℕ) (b : Bench) (o : Outcome) → (everybody ≡ [] → codes ≡ [])
    → Comes command everybody codes b o
    → Permᴰ codes o.listed
comes-lists command [] codes b o none c = rw (none refl, c.listed-is) Permᴰ.nil
comes-lists command (n ∷ ns) [] b o none c = rw c.listed-is Permᴰ.nil
comes-lists command (n ∷ ns) (k ∷ ks) b o none c = c.all_listed

-- a code that was not added is refused, or not on the bench
not-added : (h : List Call) → Each Typed h → (code : ℕ) → is_among code (added h) ≡ false
    → on_the_list (why_of (after h) code).reason ≡ false
not-added h t code a = ap (λ (w : Why). on_the_list w.reason) (by-the-book h t code) ∙ rw a (by-test (sound code))
  where
    by-test : (u : Bool) → on_the_list (if u then silent accepted NotOnBench
        else silent (code_refusal code) NotOnBench).reason ≡ false
    by-test true = refl
    by-test false = refl

pub listed-by-reason : (h : List Call) → Each Typed h → ListedByReason h
unfolding those
listed-by-reason h t = record {
  listed = λ f places room p q.
      rw (reasons-alarms h t)
      (comes-lists alarm_search (added h) (alarms h) (after h) (search_outcome alarm_search (after h) places room)
      (λ (e : added h ≡ []). ap (those (λ code. alarmed (page h code))) e)
      (demand-3 h t f places room p q).alarm-search.comes);
  no_other = not-added h t;
}
