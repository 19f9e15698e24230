-- What holds after every history: the bench is sound, its codes are those added, in order, and each device's page is
-- the book's. A slot and a reset keep it, so that every call that only makes resets and slots does; each other call
-- does to codes and pages what its entry says.
--     Reached l         the invariant of a ledger
--     reached-after     it holds after every history
use Rattle.std.specs.Prelude.{ℕ, zero, suc, ◌^◌, ◌<◌, Bool, List, [], ◌∷◌, ◌++◌, map, ◌≢◌, ◌≡◌, refl, length, get_or, set}
use Rattle.std.proofs.Common.{sym, ap, ◌∙◌, arith, eq-eqb, ne_eqb}
use Rattle.basic_laws.specs.Fold.{fold}
use Rattle.commands.specs.Commands.{search_rom, alarm_search}
use Rattle.refusals.specs.Refusals.{accepted}
use Rattle.basic_laws.specs.Each.{Each, Distinct}
use Rattle.search_laws.specs.Numbers.{Below}
use Rattle.temperature.specs.declared.Sixteenths.{Sixteenths}
use Rattle.device.specs.Finish.{conversion_done, copy_done}
use Rattle.device.specs.Hear.{hear_of}
use Rattle.device.proofs.Laws.{hear-code, hear-page, joined-fresh, power-up-fresh, conversion-code, copy-only}
use Rattle.device.specs.Power.{empty_page, power_up, reset_of, joined}
use Rattle.device.specs.declared.Device.{Device}
use Rattle.device.specs.declared.Joining.{Joining}
use Rattle.device.specs.declared.Page.{Page}
use Rattle.bench.specs.Bench.{live, vacant, place_of}
use Rattle.bench.specs.Calls.{refused}
use Rattle.bench.specs.Laws.{OneChanged}
use Rattle.bench.proofs.Laws.{heard-live, restarted-live, slot_cases, reset-cases, added-cases}
use Rattle.bench.proofs.Laws.{conversion-cases, copy-cases, cycle-cases}
use Rattle.bench.specs.Slot.{line_bit, slotted, reset_done}
use Rattle.bench.specs.Sound.{codes_of}
use Rattle.bench.proofs.SoundLaws.{heard-codes, restarted-codes, added-codes, one-changed-codes, empty-sound}
use Rattle.bench.proofs.SoundLaws.{slotted-sound, reset-done-sound, added-sound, conversion-finished-sound}
use Rattle.bench.proofs.SoundLaws.{copy-finished-sound, power-cycled-sound}
use Rattle.bench.specs.declared.Bench.{Bench}
use Rattle.bench.specs.declared.Changed.{Changed}
use Rattle.history_laws.specs.Kept.{read_keeps, write_keeps, outcome-keeps, pins-keep}
use Rattle.history_laws.specs.History.{Call, add, reset, slot, finish_conversion, finish_copy, power_cycle, search}
use Rattle.history_laws.specs.History.{search_alarms, read, write, read_pins, Typed, page_of, page_at, Entry, joins}
use Rattle.history_laws.specs.History.{empties, writes, if_accepted, Ledger, book_with, codes_after, book_after, step}
use Rattle.history_laws.specs.History.{start, ledger}
use Rattle.history_laws.specs.Reached.{Marked, PagesAre, Reached, on}

-- ## Slots and resets

pages-heard : (book : ℕ → Page) (bit : Bool) (ds : List Device) → PagesAre book ds
    → PagesAre book (map (λ d. hear_of d bit) ds)
pages-heard book bit [] h = tt
pages-heard book bit (d ∷ ds) h = (
  hear-page d bit ∙ h.0 ∙ ap book (sym (hear-code d bit)),
  pages-heard book bit ds h.1,
)

pages-reset : (book : ℕ → Page) (ds : List Device) → PagesAre book ds → PagesAre book (map reset_of ds)
pages-reset book [] h = tt
pages-reset book (d ∷ ds) h = (h.0, pages-reset book ds h.1)

module _ (l : Ledger) where
  marked-slot : (m : Bool) (b : Bench) → Marked (on l b) → Marked (on l (slotted b m).bench)
  marked-slot m b r = record {
    codes-are = slot_cases b m (λ s. codes_of s.bench ≡ l.codes) (λ f. heard-codes b (line_bit b m)
        ∙ r.codes-are) (λ f. r.codes-are);
    codes-fit = r.codes-fit;
    pages-are =
        slot_cases b m (λ s. PagesAre l.book (live s.bench))
        (λ f. rw (heard-live b (line_bit b m)) (pages-heard l.book (line_bit b m) (live b) r.pages-are))
        (λ f. r.pages-are);
  }

  marked-reset : (b : Bench) → Marked (on l b) → Marked (on l (reset_done b).bench)
  marked-reset b r = record {
    codes-are = reset-cases b (λ s. codes_of s.bench ≡ l.codes) (λ f. restarted-codes b
        ∙ r.codes-are) (λ f. r.codes-are);
    codes-fit = r.codes-fit;
    pages-are =
        reset-cases b (λ s. PagesAre l.book (live s.bench))
        (λ f. rw (restarted-live b) (pages-reset l.book (live b) r.pages-are)) (λ f. r.pages-are);
  }

  reached-slot : (m : Bool) (b : Bench) → Reached (on l b) → Reached (on l (slotted b m).bench)
  reached-slot m b r = record { sound = slotted-sound b m r.sound; marked = marked-slot m b r.marked }

  reached-reset : (b : Bench) → Reached (on l b) → Reached (on l (reset_done b).bench)
  reached-reset b r = record { sound = reset-done-sound b r.sound; marked = marked-reset b r.marked }

-- ## Pages after a change of one device

-- the page of another code stays
page-other : (book : ℕ → Page) (code : ℕ) (p : Page) (k : ℕ) → k ≢ code → book_with book code p k ≡ book k
page-other book code p k h = rw (ne_eqb k code h)

page-own : (book : ℕ → Page) (code : ℕ) (p : Page) → book_with book code p code ≡ p
page-own book code p = rw (eq-eqb code code refl)

pages-others : (book : ℕ → Page) (code : ℕ) (p : Page) (ds : List Device) → Each (λ d. d.code ≢ code) ds
    → PagesAre book ds → PagesAre (book_with book code p) ds
pages-others book code p [] h k = tt
pages-others book code p (d ∷ ds) h k = (
  k.0 ∙ sym (page-other book code p d.code h.0),
  pages-others book code p ds h.1 k.1,
)

-- distinct codes: those after the first are not the first's
others-differ : (code : ℕ) (ds : List Device) → Each (λ c. code ≢ c) (map (λ d. d.code) ds)
    → Each (λ d. d.code ≢ code) ds
others-differ code [] h = tt
others-differ code (d ∷ ds) h = ((λ e. h.0 (sym e)), others-differ code ds h.1)

at-differs : (code : ℕ) (ds : List Device) (i : ℕ) → i < length ds → Each (λ c. code ≢ c) (map (λ d. d.code) ds)
    → code ≢ (get_or ds i vacant).code
at-differs code [] i h k = absurd (omega arith)
at-differs code (d ∷ ds) zero h k = k.0
at-differs code (d ∷ ds) (suc i) h k = at-differs code ds i (omega arith) k.1

-- one device's page is written
pages-set : (book : ℕ → Page) (ds : List Device) (i : ℕ) (v : Device) (p : Page) → Distinct (map (λ d. d.code) ds)
    → i < length ds
    → v.code ≡ (get_or ds i vacant).code → v.page ≡ p → PagesAre book ds
    → PagesAre (book_with book v.code p) (set ds i v)
pages-set book [] i v p d h c e k = absurd (omega arith)
pages-set book (x ∷ ds) zero v p d h c e k = (
  e ∙ sym (page-own book v.code p),
  pages-others book v.code p ds (rw c (others-differ x.code ds d.0))
      k.1,
)
pages-set book (x ∷ ds) (suc i) v p d h c e k =
    let l : i < length ds = omega arith in
    let n : x.code ≢ v.code = λ z. at-differs x.code ds i l d.0 (z ∙ c) in
    (k.0 ∙ sym (page-other book v.code p x.code n), pages-set book ds i v p d.1 l c e k.1)

-- one device changes, and keeps its code and page
pages-same : (book : ℕ → Page) (ds : List Device) (i : ℕ) (v : Device) → i < length ds
    → v.code ≡ (get_or ds i vacant).code → v.page ≡ (get_or ds i vacant).page
    → PagesAre book ds → PagesAre book (set ds i v)
pages-same book [] i v h c e k = absurd (omega arith)
pages-same book (x ∷ ds) zero v h c e k = (e ∙ k.0 ∙ ap book (sym c), k.1)
pages-same book (x ∷ ds) (suc i) v h c e k = (k.0, pages-same book ds i v (omega arith) c e k.1)

pages-snoc : (book : ℕ → Page) (ds : List Device) (v : Device) → PagesAre book ds → v.page ≡ book v.code
    → PagesAre book (ds ++ (v ∷ []))
pages-snoc book [] v k e = (e, tt)
pages-snoc book (d ∷ ds) v k e = (k.0, pages-snoc book ds v k.1 e)

below-snoc : (codes : List ℕ) (code : ℕ) → Below 64 codes → code < 2 ^ 64 → Below 64 (codes ++ (code ∷ []))
below-snoc [] code b h = (h, tt)
below-snoc (c ∷ codes) code b h = (b.0, below-snoc codes code b.1 h)

-- ## The calls that change devices

-- the ledger after a call with this answer, if it enters e where it is accepted
abbrev answered : Ledger → Entry → Changed → Ledger
answered l e c = record {
  bench = c.bench;
  codes = codes_after l.codes (if_accepted c e);
  book = book_after l.book (if_accepted c e);
}

module _ (l : Ledger) (r : Reached l) where
  -- a refusal enters nothing
  refusal-kept : (e : Entry) (n : ℕ) → n ≢ accepted → Marked (answered l e (refused n l.bench))
  refusal-kept e n h = rw (ne_eqb n accepted h) r.marked

  reached-add : (new : Joining) → new.code < 2 ^ 64 → Reached (step l (add new))
  reached-add new h = record {
    sound = added-sound l.bench new r.sound;
    marked =
        added-cases l.bench new (λ c. Marked (answered l (joins new.code) c)) r.sound.places
        (refusal-kept (joins new.code)) (λ after a.
        let m = r.marked in
        let own : (joined new).page ≡ book_with l.book new.code empty_page (joined new).code =
        (joined-fresh new).page-empty ∙ sym (ap (book_with l.book new.code empty_page) (joined-fresh new).code_is
        ∙ page-own l.book new.code empty_page) in
        record {
          codes-are = added-codes l.bench new after a ∙ ap (λ (cs : List ℕ). cs ++ (new.code ∷ [])) m.codes-are;
          codes-fit = below-snoc l.codes new.code m.codes-fit h;
          pages-are =
              rw a.live-is
              (pages-snoc (book_with l.book new.code empty_page) (live l.bench) (joined new)
              (pages-others l.book new.code empty_page (live l.bench) a.code-new m.pages-are) own);
        });
  }

  -- one device changes and its page is written
  marked-written : (code : ℕ) (f : Device → Device) (p : Page) (after : Bench) (o : OneChanged l.bench code f after)
      → ((d : Device) → (f d).code ≡ d.code)
      → (f (get_or (live l.bench) o.place vacant)).page ≡ p
      → Marked (record { bench = after; codes = l.codes; book = book_with l.book code p })
  marked-written code f p after o same e =
      let m = r.marked in
      let d = get_or (live l.bench) o.place vacant in
      let c : (f d).code ≡ code = same d ∙ o.code-there in
      record {
        codes-are = one-changed-codes l.bench code f same after o ∙ m.codes-are;
        codes-fit = m.codes-fit;
        pages-are =
            rw (o.live-is, ← c)
            (pages-set l.book (live l.bench) o.place (f d) p r.sound.codes-distinct o.within (same d) e
            m.pages-are);
      }

  reached-conversion : (code : ℕ) (n : Sixteenths) → Reached (step l (finish_conversion code n))
  unfolding conversion_done
  reached-conversion code n = record {
    sound = conversion-finished-sound l.bench code n r.sound;
    marked =
        conversion-cases l.bench code (λ c. Marked
        (answered l (writes code (page_at l.bench n (place_of l.bench code))) c))
        (refusal-kept (writes code (page_at l.bench n (place_of l.bench code)))) n (λ range after o.
        rw (o.place_is, ← o.device-is)
        (marked-written code (λ d. conversion_done d n) (page_of (get_or (live l.bench) o.place vacant) n) after o
        (λ d. conversion-code d n) refl));
  }

  reached-copy : (code : ℕ) → Reached (step l (finish_copy code))
  reached-copy code = record {
    sound = copy-finished-sound l.bench code r.sound;
    marked =
        copy-cases l.bench code (λ c. Marked (on l c.bench)) (λ n h. r.marked) (λ latched after o held.
        let m = r.marked in
        let d = get_or (live l.bench) o.place vacant in
        let same : (x : Device) → (copy_done x latched).code ≡ x.code = λ x. ap (λ y. y.code) (copy-only x latched) in
        record {
          codes-are = one-changed-codes l.bench code (λ x. copy_done x latched) same after o ∙ m.codes-are;
          codes-fit = m.codes-fit;
          pages-are =
              rw o.live-is
              (pages-same l.book (live l.bench) o.place (copy_done d latched) o.within (same d)
              (ap (λ y. y.page) (copy-only d latched)) m.pages-are);
        });
  }

  reached-cycle : (code : ℕ) → Reached (step l (power_cycle code))
  reached-cycle code = record {
    sound = power-cycled-sound l.bench code r.sound;
    marked =
        cycle-cases l.bench code (λ c. Marked (answered l (empties code) c)) (refusal-kept (empties code))
        (λ after o.
        marked-written code power_up empty_page after o (λ d. (power-up-fresh d).code_is) (power-up-fresh _).page-empty);
  }

-- ## Every history

reached-step : (l : Ledger) (c : Call) → Typed c → Reached l → Reached (step l c)
reached-step l (add new) t r = reached-add l r new t.0
reached-step l reset t r = reached-reset l l.bench r
reached-step l (slot m) t r = reached-slot l m l.bench r
reached-step l (finish_conversion code n) t r = reached-conversion l r code n
reached-step l (finish_copy code) t r = reached-copy l r code
reached-step l (power_cycle code) t r = reached-cycle l r code
reached-step l (search places room) t r = outcome-keeps (λ b. Reached (on l b)) (reached-slot l) (reached-reset l)
    search_rom l.bench places room r
reached-step l (search_alarms places room) t r =
    outcome-keeps (λ b. Reached (on l b)) (reached-slot l) (reached-reset l) alarm_search l.bench places room r
reached-step l (read code) t r = read_keeps (λ b. Reached (on l b)) (reached-slot l) (reached-reset l) code l.bench r
reached-step l (write code s) t r = write_keeps (λ b. Reached (on l b)) (reached-slot l) (reached-reset l) code s
    l.bench r
reached-step l (read_pins places) t r = pins-keep (λ b. Reached (on l b)) (reached-slot l) (reached-reset l) l.bench
    places r

reached-start : Reached start
reached-start = record { sound = empty-sound; marked = record { codes-are = refl; codes-fit = tt; pages-are = tt } }

reached-from : (h : List Call) (l : Ledger) → Each Typed h → Reached l → Reached (fold step l h)
unfolding fold
reached-from [] l t r = r
reached-from (c ∷ h) l t r = reached-from h (step l c) t.1 (reached-step l c t.0 r)

pub reached-after : (h : List Call) → Each Typed h → Reached (ledger h)
unfolding ledger
reached-after h t = reached-from h start t reached-start
