-- The call for address pins, read by read. Invariant: the bench is readable, and differs from the one before the call
-- in stages alone (`Same`). So each code stands where it stood, its read is answered by `read-answered`, and the low
-- four bits of the configuration shown are the device's pins: its configuration is as it keeps it, and pins over 15
-- never joined (`pins-last`).
--     pins-claim       the claim
use Prim.Native.Nat.{ℕ, zero, suc, ◌+◌, ◌*◌, ◌/◌, ◌%◌, ◌^◌, ◌<◌, ◌≤◌}
use Rattle.std.specs.Prelude.{Bool, not, ◌||◌, ◌≢◌, ◌≡◌, eqb, get_or}
use Rattle.std.proofs.Math.Bool.{true, false}
use mathlib.Core.List.{List, [], ◌∷◌, ◌++◌, map, append-nil, append_assoc}
use Rattle.std.proofs.Math.Path.{refl}
use Rattle.std.proofs.Common.{sym, ap, subst, ◌∙◌, arith, lit<, lit≤}
use borrow.Author.Tests.{le-ltb, eq-eqb, eqb-true, ltb-true, ltb-false}
use Rattle.std.specs.Int.Bits.{bit_and}
use Rattle.std.proofs.lemmas.Nat.Bits.{and_high}
use Rattle.std.proofs.Math.Dec.{ltb}
use Rattle.std.proofs.Math.ListN.{get_or-map}
use Rattle.std.specs.Prelude.{if◌then◌else◌}
use Rattle.basic_laws.specs.Each.{Each, those}
use Rattle.basic_laws.specs.EachLaws.{each-implies, each-perm, each_at}
use Rattle.basic_laws.specs.Fold.{fold, all}
use Rattle.commands.specs.Commands.{search_rom}
use Rattle.refusals.specs.Refusals.{accepted}
use Rattle.family.specs.Configuration.{stored_form, as_kept}
use Rattle.family.specs.Families.{properties_of, with_pins, kept_pins, pins_wrong}
use Rattle.family.specs.FamiliesLaws.{every-row}
use Rattle.family.specs.declared.Properties.{Properties}
use Rattle.rom.specs.Code.{family_of}
use Rattle.device.specs.Offer.{nine_bytes}
use Rattle.device.specs.OfferLaws.{nine-byte}
use Rattle.device.proofs.Outcomes.{hear-outcome}
use Rattle.device.specs.Finish.{conversion_done, copy_done}
use Rattle.device.specs.Power.{power_up, joined}
use Rattle.device.specs.Record.{family_row}
use Rattle.device.specs.declared.Device.{Device}
use Rattle.device.specs.declared.Joining.{Joining}
use Rattle.bench.specs.Bench.{live, vacant, place_of, free}
use Rattle.bench.specs.Calls.{device_at}
use Rattle.bench.specs.declared.Bench.{Bench}
use Rattle.bench.specs.declared.Place.{Place}
use Rattle.bench.specs.declared.Place.TheVariants.{At, Nowhere}
use Rattle.bench.specs.Everywhere.{Invariant}
use Rattle.bench.proofs.Laws.{place-nowhere, place-live, place_found, device-live}
use Rattle.bench.specs.Sound.{codes_of}
use Rattle.master_rules.proofs.OnTheBench.{same-but-stage, same-free}
use Rattle.master_rules.specs.Thermometers.{unstaged}
use Rattle.master_rules.specs.Access.{read_at}
use Rattle.master_rules.specs.Pins.{is_pinned, pins_shown, PinsFound, pin_read, pins_step, have_pin, shared_from, shared_pin}
use Rattle.master_rules.specs.Pins.{pins_outcome}
use Rattle.master_rules.specs.Search.{fewest_places, fewest_bytes, Outcome, search_outcome}
use Rattle.master_rules.specs.SearchLaws.{wire-held, search-accepted}
use Rattle.master_rules.specs.declared.Access.{Access}
use Rattle.master_rules.specs.declared.SharedPin.TheVariants.{Pin}
use Rattle.history_laws.proofs.Corollaries.{codes-are-added}
use Rattle.history_laws.specs.Demand.{Comes}
use Rattle.history_laws.specs.History.{Call, add, Typed, added, after}
use Rattle.history_laws.specs.Kept.{read_keeps, outcome-keeps}
use Rattle.history_laws.proofs.Theorem.{demand-3}
use Rattle.access_laws.specs.Bytewise.{Readable, readable-after, readable-slot, readable-reset}
use Rattle.access_laws.specs.Lasting.{lasts_after}
use Rattle.access_laws.specs.Pinning.{pins_at_place, pins_at, read_on, LeastShared, PinsClaim, PinsPromise}
use Rattle.access_laws.proofs.ReadLaws.{pad-sound, read-answered}
use Rattle.access_laws.specs.Shown.{answered_with}
use Rattle.access_laws.specs.SearchLaws.{search-kept}
use Rattle.access_laws.specs.ShownLaws.{code_at, read_kept}
use Rattle.access_laws.proofs.WriteLaws.{place-by-codes}

-- ## Pins over 15 never join

abbrev PinsFew : Device → Type 0
PinsFew d = pins_wrong (family_row d.code) d.pins ≡ false

pins-last : Invariant PinsFew
unfolding power_up conversion_done copy_done
pins-last = record {
  by-slot = λ d l h. hear-outcome d l PinsFew
      (record {
        moved = λ s. h;
        converts = λ s e n. h;
        copies = λ s e n. h;
        recalls = λ s e n. h;
        setting-stored = λ k s e n next. h;
      });
  by-reset = λ d h. h;
  by-power = λ d h. h;
  by-conversion = λ d n r h. h;
  by_copy = λ d s e h. h;
}

joined-few : (new : Joining) → Typed (add new) → pins_wrong (family_row new.code) new.pins ≡ false
    → PinsFew (joined new)
unfolding joined
joined-few new t h = by-test (family_row new.code).pinned refl
  where
    by-test : (u : Bool) → (family_row new.code).pinned ≡ u
        → pins_wrong (family_row new.code) (kept_pins (family_row new.code) new.pins) ≡ false
    by-test true e = rw e (rw e at h)
    by-test false e = rw e refl

pub few-after : (h : List Call) → Each Typed h → Each PinsFew (live (after h))
few-after h t = lasts_after PinsFew pins-last joined-few h t

-- ## A code of the bench has a place

record Placed (b : Bench) (code : ℕ) : Type 0 where
  pub place : ℕ
  pub at : place_of b code ≡ At place

present-each : (l : List ℕ) → Each (λ x. Each (λ y. y ≢ x) l → ⊥) l
present-each [] = tt
present-each (x ∷ l) = (λ h. h.0 refl, each-implies (λ y f h. f h.1) l (present-each l))

codes-each : (code : ℕ) (ds : List Device) → Each (λ d. d.code ≢ code) ds
    → Each (λ y. y ≢ code) (map (λ d. d.code) ds)
codes-each code [] h = tt
codes-each code (d ∷ ds) h = (h.0, codes-each code ds h.1)

placed : (b : Bench) (code : ℕ) → (Each (λ d. d.code ≢ code) (live b) → ⊥) → Placed b code
placed b code present = by_place (place_of b code) refl
  where
    by_place : (p : Place) → place_of b code ≡ p → Placed b code
    by_place (At i) e = record { place = i; at = e }
    by_place Nowhere e = absurd (present (place-nowhere b code e))

placed-each : (b : Bench) → Each (Placed b) (codes_of b)
placed-each b = each-implies (λ code f. placed b code (λ h. f (codes-each code (live b) h))) (codes_of b)
    (present-each (codes_of b))

-- ## The same devices but for their stages

module _ (b c : Bench) (e : map unstaged (live c) ≡ map unstaged (live b)) (code : ℕ) where
  same_place : place_of c code ≡ place_of b code
  same_place = place-by-codes b c code (same-but-stage (λ d. d.code) (λ d. refl) (live c) (live b) e)

  same-pins : (i : ℕ) → place_of b code ≡ At i → (device_at c i).pins ≡ (device_at b i).pins
  same-pins i at =
      let pins : Device → ℕ = λ d. d.pins in
      let at_c : place_of c code ≡ At i = same_place ∙ at in
      let all_same : map pins (live c) ≡ map pins (live b) = same-but-stage pins (λ d. refl) (live c) (live b) e in
      sym (ap pins (device-live c code i at_c)) ∙ sym (get_or-map pins (live c) i vacant)
      ∙ ap (λ l. get_or l i vacant.pins) all_same
      ∙ get_or-map pins (live b) i vacant ∙ ap pins (device-live b code i at)

-- ## The low four bits of a configuration that is kept

-- resolution bits and bit 4 are above them
stored_low : (byte pins : ℕ) → byte ≡ stored_form byte pins → byte % 16 ≡ pins % 16
stored_low byte pins h =
    let e : bit_and byte 0x60 ≡ byte / 2 ^ 5 % 2 ^ 2 * 2 ^ 5 = and_high byte 2 5 in
    omega (arith, h, e)

-- a family with pins has a configuration
pinned-configurable : (family : ℕ) → (properties_of family).pinned ≡ true → (properties_of family).configurable ≡ true
unfolding all
pinned-configurable family h =
    let test : (not (properties_of family).pinned || (properties_of family).configurable) ≡ true =
    every-row (λ row. not row.pinned || row.configurable) refl family in
    rw h at test

kept_low : (row : Properties) (pins byte : ℕ) → row.pinned ≡ true → row.configurable ≡ true
    → as_kept (with_pins row pins) byte ≡ true → byte % 16 ≡ pins % 16
kept_low row pins byte p c h = stored_low byte pins (eqb-true byte (stored_form byte pins) (rw (c, p) at h))

pins-bound : (row : Properties) (pins : ℕ) → row.pinned ≡ true → pins_wrong row pins ≡ false → pins < 16
pins-bound row pins p h = let k = ltb-false 15 pins (rw p at h) in omega (arith, k)

-- ## One read

module _ (b : Bench) (few : Each PinsFew (live b)) (f : free b ≡ true) where
  record Same (c : Bench) : Type 0 where
    pub readable : Readable c
    pub kept : map unstaged (live c) ≡ map unstaged (live b)

  module _ (c : Bench) (s : Same c) (code : ℕ) (p : Placed b code) where
    at_c : place_of c code ≡ At p.place
    at_c = same_place b c s.kept code ∙ p.at

    read_is : read_at c code ≡ answered_with code (device_at c p.place).scratchpad (read_on c code)
    read_is = read-answered c s.readable code p.place (same-free c b s.kept ∙ f) at_c

    pin-few : is_pinned code ≡ true → pins_at b code < 16
    pin-few h =
        let d = device_at b p.place in
        let has : d.code ≡ code = ap (λ (x : Device). x.code) (sym (device-live b code p.place p.at))
        ∙ place_found b code p.place p.at in
        let right : pins_wrong (family_row d.code) d.pins ≡ false =
        rw (device-live b code p.place p.at) at
        (each_at PinsFew (live b) p.place vacant (place-live b code p.place p.at) few) in
        rw p.at (pins-bound (properties_of (family_of code)) d.pins h (rw has at right))

    pin-shown : is_pinned code ≡ true → pins_shown (nine_bytes (device_at c p.place).scratchpad) ≡ pins_at b code
    pin-shown h =
        let row = properties_of (family_of code) in
        let pad = (device_at c p.place).scratchpad in
        let sound = pad-sound c s.readable code p.place (same-free c b s.kept ∙ f) at_c in
        let low : get_or pad 4 0 % 16 ≡ (device_at c p.place).pins % 16 =
        kept_low row (device_at c p.place).pins (get_or pad 4 0) h (pinned-configurable (family_of code) h)
        sound.as-kept in
        let there : pins_at b code ≡ (device_at b p.place).pins = ap (pins_at_place b) p.at in
        let bound = pin-few h in
        let same = same-pins b c s.kept code p.place p.at in
        ap (λ n. n % 16) (nine-byte pad 4 sound.eight (lit< tt)) ∙ low ∙ omega (arith, there, bound, same)

    step_is : is_pinned code ≡ true → (codes pins : List ℕ)
        → pins_step (record { codes = codes; pins = pins; bench = c }) code
        ≡ record { codes = codes ++ (code ∷ []); pins = pins ++ (pins_at b code ∷ []); bench = read_on c code }
    step_is h codes pins =
        rw h (ap (pin_read (record { codes = codes; pins = pins; bench = c }) code) read_is
        ∙ ap (λ (q : ℕ). record { codes = codes ++ (code ∷ []); pins = pins ++ (q ∷ []); bench = read_on c code })
        (pin-shown h))

    same_read : Same (read_on c code)
    same_read =
        let has = place_found c code p.place at_c in
        let fits : code < 2 ^ 64 = rw has at (code_at (λ n. n < 2 ^ 64) (live c) p.place
        (place-live c code p.place at_c) s.readable.codes-fit) in
        record {
          readable = subst (λ (a : Access). Readable a.bench) read_is
              (read_keeps Readable readable-slot readable-reset code c s.readable);
          kept = ap (λ (a : Access). map unstaged (live a.bench)) (sym read_is)
              ∙ read_kept c code fits s.readable.codes-fit ∙ s.kept;
        }

  -- ## The reads at some codes

  record Reads (codes pins : List ℕ) (c : Bench) (cs : List ℕ) : Type 0 where
    pub found-is : fold pins_step (record { codes = codes; pins = pins; bench = c }) cs
        ≡ record {
          codes = codes ++ those is_pinned cs;
          pins = pins ++ map (pins_at b) (those is_pinned cs);
          bench = fold read_on c (those is_pinned cs);
        }
    pub same_after : Same (fold read_on c (those is_pinned cs))
    pub all-few : Each (λ n. n < 16) (map (pins_at b) (those is_pinned cs))

  reads : (cs : List ℕ) → Each (Placed b) cs → (codes pins : List ℕ) (c : Bench) → Same c → Reads codes pins c cs
  unfolding fold those
  reads [] e codes pins c s = record {
    found-is = rw (append-nil codes, append-nil pins) refl;
    same_after = s;
    all-few = tt;
  }
  reads (code ∷ cs) e codes pins c s = by-test (is_pinned code) refl (λ l m d k. reads cs e.1 l m d k)
    where
      by-test : (u : Bool) → is_pinned code ≡ u → ((l m : List ℕ) (d : Bench) → Same d → Reads l m d cs)
          → Reads codes pins c (code ∷ cs)
      by-test true h later =
          let i = later (codes ++ (code ∷ [])) (pins
          ++ (pins_at b code ∷ [])) (read_on c code) (same_read c s code e.0) in
          let front = append_assoc codes (code ∷ []) (those is_pinned cs) in
          let front-pins = append_assoc pins (pins_at b code ∷ []) (map (pins_at b) (those is_pinned cs)) in
          record {
            found-is = rw h (ap (λ (g : PinsFound). fold pins_step g cs) (rw h at (step_is c s code e.0 h codes pins))
                ∙ i.found-is ∙ rw (front, front-pins) refl);
            same_after = rw h i.same_after;
            all-few = rw h (pin-few c s code e.0 h, i.all-few);
          }
      by-test false h later =
          let i = later codes pins c s in
          record { found-is = rw h i.found-is; same_after = rw h i.same_after; all-few = rw h i.all-few }

-- ## The lowest pin number that two have

module _ (pins : List ℕ) where
  shared-from : (n p : ℕ) → n + p ≡ 16 → ((q : ℕ) → q < p → have_pin pins q ≤ 1) → LeastShared pins (shared_from n p pins)
  unfolding shared_from
  shared-from zero p e h = λ q k. h q (omega (arith, e, k))
  shared-from (suc n) p e h = by-test (ltb 1 (have_pin pins p)) refl
      (λ m. shared-from n (p + 1) (omega (arith, e)) (next m))
    where
      next : have_pin pins p ≤ 1 → (q : ℕ) → q < p + 1 → have_pin pins q ≤ 1
      next m q k = by_place (ltb q p) refl
        where
          by_place : (u : Bool) → ltb q p ≡ u → have_pin pins q ≤ 1
          by_place true g = h q (ltb-true q p g)
          by_place false g = let l = ltb-false q p g in let is : q ≡ p = omega (arith, k, l) in rw is m

      by-test : (u : Bool) → ltb 1 (have_pin pins p) ≡ u
          → (have_pin pins p ≤ 1 → LeastShared pins (shared_from n (p + 1) pins))
          → LeastShared pins (if u then Pin p else shared_from n (p + 1) pins)
      by-test true g later = (ltb-true 1 (have_pin pins p) g, h)
      by-test false g later = later (ltb-false 1 (have_pin pins p) g)

  shared-least : LeastShared pins (shared_pin pins)
  shared-least = shared-from 16 0 refl (λ q k. absurd (omega (arith, k)))

-- ## The codes of the search before the reads

placed-listed : (b : Bench) (s : Outcome) (ns : List ℕ) → Each (Placed b) ns → Comes search_rom ns ns b s
    → Each (Placed b) s.listed
placed-listed b s [] e l = rw l.listed-is tt
placed-listed b s (n ∷ ns) e l = each-perm (Placed b) l.all_listed e

-- ## The claim

pub pins-claim : PinsClaim
unfolding pins_outcome
pins-claim h t f places wide =
    let b = after h in
    let s = search_outcome search_rom b 32 1824 in
    let claim = (demand-3 h t f 32 1824 (lit≤ tt) (lit≤ tt)).search in
    let listed = placed-listed b s (added h) (rw (codes-are-added h t) at (placed-each b)) claim.comes in
    let start : Same b (few-after h t) f s.bench =
    record {
      readable = outcome-keeps Readable readable-slot readable-reset search_rom b 32 1824 (readable-after h t);
      kept = search-kept b 32 1824;
    } in
    let r = reads b (few-after h t) f s.listed listed [] [] s.bench start in
    let done : eqb s.refusal accepted ≡ true =
    eq-eqb s.refusal accepted (search-accepted search_rom b 32 1824 (lit≤ tt) (lit≤ tt) f) in
    rw (le-ltb places 32 wide, done, r.found-is) record {
      refusal_is = refl;
      codes-are = refl;
      pins-are = refl;
      pins-few = r.all-few;
      shared-is = shared-least (map (pins_at b) (those is_pinned s.listed));
      bench-is = refl;
      devices-kept = r.same_after.kept;
    }

pub pins-promised : (b : Bench) (places : ℕ) → PinsPromise b places
pins-promised b places h t e f wide = rw (← e) (pins-claim h t (rw (← e) at f) places wide)

-- refused or not, the call changes nothing but stages
pub pins-kept : (h : List Call) → Each Typed h → (places : ℕ)
    → map unstaged (live (pins_outcome (after h) places).found.bench) ≡ map unstaged (live (after h))
unfolding pins_outcome
pins-kept h t places = by_tests (ltb places fewest_places) refl (free (after h)) refl
  where
    by_tests : (u : Bool) → ltb places fewest_places ≡ u → (v : Bool) → free (after h) ≡ v
        → map unstaged (live (pins_outcome (after h) places).found.bench) ≡ map unstaged (live (after h))
    by_tests true e v f = rw e
    by_tests false e true f = (pins-claim h t f places (ltb-false places fewest_places e)).devices-kept
    by_tests false e false f = rw (e, wire-held search_rom (after h) fewest_places fewest_bytes (lit≤ tt) (lit≤ tt) f)
