-- A reading holds what was found, turn by turn: nothing at first; a code without pins changes nothing; a reply that is
-- refused moves the bench alone; one that is accepted adds a code and its pins.
use Prim.Native.Nat.{ℕ, suc, ◌+◌, ◌-◌, ◌<◌, ◌≤◌}
use Rattle.std.specs.Prelude.{Bool, true, false, List, [], ◌∷◌, ◌++◌, ◌≢◌, ◌≡◌, refl, eqb, length, take, get_or, set, replicate}
use Rattle.std.proofs.Common.{sym, ap, ◌∙◌, length-append, take-suc, add-one}
use native.Mathlib.Omega.{arith}
use borrow.Author.Tests.{eq-eqb, ne_eqb, lt-ltb, le-ltb}
use Rattle.std.proofs.lemmas.List.{length-replicate}
use Rattle.std.specs.Prelude.{if◌then◌else◌}
use Rattle.basic_laws.specs.Each.{those}
use Rattle.basic_laws.specs.EachLaws.{those-append}
use Rattle.basic_laws.specs.Laid.{laid}
use Rattle.basic_laws.specs.LaidLaws.{laid_none, laid-store}
use Rattle.refusals.specs.Refusals.{accepted}
use Rattle.bench.specs.declared.Bench.{Bench}
use Rattle.master_rules.specs.Access.{read_at}
use Rattle.master_rules.specs.Pins.{is_pinned, pins_shown, PinsFound, nobody_read, pins_step, have_pin, shared_from}
use Rattle.master_rules.specs.Pins.{shared_pin}
use Rattle.master_rules.specs.declared.SharedPin.TheVariants.{NoPin, Pin}
use Rattle.pins.specs.declared.Reading.{Reading}
use Rattle.pins.specs.Reading.{Holds, counted_pin}

pub holds-none : (list : List ℕ) (b : Bench) → 32 ≤ length list
    → Holds list list (record { codes = 0; pins = replicate 32 0; bench = b }) (nobody_read b)
holds-none list b room = record {
  room = room;
  codes-are = refl;
  as_many = refl;
  pins-are = laid_none (replicate 32 0) 0;
  list-is = laid_none list 0;
  bench-is = refl;
}

module _ (list0 list : List ℕ) (r : Reading) (f : PinsFound) (code : ℕ) (h : Holds list0 list r f) where
  pub holds-skip : is_pinned code ≡ false → Holds list0 list r (pins_step f code)
  holds-skip e = rw e h

  module _ (pinned : is_pinned code ≡ true) where
    pub holds-refused : (read_at r.bench code).refusal ≢ accepted
        → Holds list0 list (record { codes = r.codes; pins = r.pins; bench = (read_at r.bench code).bench })
        (pins_step f code)
    holds-refused n =
        let m = rw h.bench-is at n in
        rw (pinned, ne_eqb (read_at f.bench code).refusal accepted m)
        (record {
          room = h.room;
          codes-are = h.codes-are;
          as_many = h.as_many;
          pins-are = h.pins-are;
          list-is = h.list-is;
          bench-is = ap (λ (b : Bench). (read_at b code).bench) h.bench-is;
        })

    pub holds_read : (read_at r.bench code).refusal ≡ accepted → r.codes < 32
        → Holds list0 (set list r.codes code)
        (record {
          codes = r.codes + 1;
          pins = set r.pins r.codes (pins_shown (read_at r.bench code).pad);
          bench = (read_at r.bench code).bench;
        })
        (pins_step f code)
    holds_read e few =
        let d = rw h.bench-is at e in
        let n = h.codes-are in
        let m = h.as_many in
        let room = h.room in
        let long = length-replicate {A = ℕ} 32 0 in
        let pin = pins_shown (read_at f.bench code).pad in
        let listed : set list r.codes code ≡ laid list0 0 (f.codes ++ (code ∷ [])) =
        ap (λ (l : List ℕ). set l r.codes code) h.list-is
        ∙ laid-store list0 0 f.codes code r.codes (omega arith) (omega arith) in
        let stored : set r.pins r.codes (pins_shown (read_at r.bench code).pad)
        ≡ laid (replicate 32 0) 0 (f.pins ++ (pin ∷ [])) =
        ap (λ (l : List ℕ). set l r.codes (pins_shown (read_at r.bench code).pad)) h.pins-are
        ∙ ap (λ (b : Bench). set (laid (replicate 32 0) 0 f.pins) r.codes (pins_shown (read_at b code).pad))
        h.bench-is
        ∙ laid-store (replicate 32 0) 0 f.pins pin r.codes (omega arith) (omega arith) in
        let one = length-append f.codes (code ∷ []) in
        let two = length-append f.pins (pin ∷ []) in
        rw (pinned, eq-eqb (read_at f.bench code).refusal accepted d)
        (record {
          room = room;
          codes-are = omega arith;
          as_many = omega arith;
          pins-are = stored;
          list-is = listed;
          bench-is = ap (λ (b : Bench). (read_at b code).bench) h.bench-is;
        })

-- ## How many have a pin number, one more at a time

pub have-none : (pins : List ℕ) (p : ℕ) → 0 ≡ have_pin (take 0 pins) p
unfolding those
have-none pins p = refl

pub have-more : (pins : List ℕ) (p i : ℕ) → i < length pins
    → counted_pin (have_pin (take i pins) p) (get_or pins i 0) p ≡ have_pin (take (i + 1) pins) p
unfolding those
have-more pins p i within = sym (next ∙ by-test (eqb (get_or pins i 0) p))
  where
    next : have_pin (take (i + 1) pins) p ≡ length (those (λ q. eqb q p) (take i pins))
        + length (those (λ q. eqb q p) (get_or pins i 0 ∷ []))
    next =
        rw (add-one i, take-suc pins i 0 within, those-append (λ q. eqb q p) (take i pins) (get_or pins i 0 ∷ []))
        (length-append (those (λ q. eqb q p) (take i pins)) (those (λ q. eqb q p) (get_or pins i 0 ∷ [])))

    by-test : (t : Bool) → have_pin (take i pins) p + length (if t then get_or pins i 0 ∷ [] else [])
        ≡ (if t then have_pin (take i pins) p + 1 else have_pin (take i pins) p)
    by-test true = refl
    by-test false = omega arith

pub have-few : (pins : List ℕ) (p : ℕ) → have_pin pins p ≤ length pins
unfolding those
have-few [] p = omega arith
have-few (q ∷ pins) p = by-test (eqb q p) (have-few pins p)
  where
    by-test : (t : Bool) → have_pin pins p ≤ length pins
        → length (if t then q ∷ those (λ r. eqb r p) pins else those (λ r. eqb r p) pins) ≤ length (q ∷ pins)
    by-test true h = omega arith
    by-test false h = omega arith

-- ## The lowest number that two have, one at a time

module _ (pins : List ℕ) (n p : ℕ) (some : p < n) where
  pub shared-here : 1 < have_pin pins p → Pin p ≡ shared_from (n - p) p pins
  unfolding shared_from
  shared-here h = let e : n - p ≡ suc (n - (p + 1)) = omega arith in rw (e, lt-ltb 1 (have_pin pins p) h)

  pub shared-on : have_pin pins p ≤ 1 → shared_from (n - p) p pins ≡ shared_from (n - (p + 1)) (p + 1) pins
  unfolding shared_from
  shared-on h = let e : n - p ≡ suc (n - (p + 1)) = omega arith in rw (e, le-ltb 1 (have_pin pins p) h)

pub shared-none : (pins : List ℕ) (n p : ℕ) → n ≤ p → NoPin ≡ shared_from (n - p) p pins
unfolding shared_from
shared-none pins n p h = let e : n - p ≡ 0 = omega arith in rw e

pub nobody-shares : NoPin ≡ shared_pin []
unfolding shared_from those
nobody-shares = refl

pub nothing-laid : replicate {A = ℕ} 32 0 ≡ laid (replicate 32 0) 0 []
nothing-laid = laid_none (replicate 32 0) 0
