-- The call by its tests, and its answer by what the reads hold.
--     few-places, enough-places                    the outcome by the places lent
--     listed-part, listed-most, listed-within      the codes that a search listed are the front of its list, at most 32
--     refused-is, done-is                          the call by what the search came to
--     read-few                                     no more codes are read than were listed
--     holds-answer                                 the answer of a reading is that of what it holds
use Rattle.std.specs.Prelude.{ℕ, ◌+◌, ◌<◌, ◌≤◌, Bool, true, false, List, [], ◌∷◌, ◌++◌, ◌≢◌, ◌≡◌, refl, eqb, ltb, length, take, replicate}
use Rattle.std.proofs.Common.{sym, ap, ◌∙◌, arith, lt-ltb, le-ltb, eq-eqb, ne_eqb, lit≤, length-append}
use Rattle.std.specs.Prelude.{if◌then◌else◌}
use Rattle.basic_laws.specs.Fold.{fold}
use Rattle.basic_laws.specs.Laid.{laid}
use Rattle.basic_laws.specs.LaidLaws.{laid-read, laid-front}
use Rattle.commands.specs.Commands.{search_rom}
use Rattle.refusals.specs.Refusals.{accepted, no_room}
use Rattle.bench.specs.declared.Bench.{Bench}
use Rattle.master_rules.specs.Access.{read_at}
use Rattle.master_rules.specs.Pins.{is_pinned, pins_shown, PinsOutcome, PinsFound, pins_step, nobody_read, pins_searched}
use Rattle.master_rules.specs.Pins.{shared_pin, not_pinned, pins_outcome, pinned_of}
use Rattle.master_rules.specs.Search.{Outcome, search_outcome, answer_of, list_after}
use Rattle.master_rules.specs.declared.Searched.{Searched}
use Rattle.search.specs.Sweep.{search-bounded}
use Rattle.pins.specs.declared.Reading.{Reading}
use Rattle.pins.specs.Reading.{Holds}

pub few-places : (b : Bench) (places : ℕ) → places < 32 → pins_outcome b places ≡ not_pinned no_room b
unfolding pins_outcome
few-places b places h = rw (lt-ltb places 32 h)

pub enough-places : (b : Bench) (places : ℕ) → 32 ≤ places
    → pins_outcome b places ≡ pins_searched (search_outcome search_rom b 32 1824)
unfolding pins_outcome
enough-places b places h = rw (le-ltb places 32 h)

-- ## A search in room lent for it

abbrev pub searched_whole : Bench → Outcome
searched_whole b = search_outcome search_rom b 32 1824

module _ (b : Bench) (list recording list' : List ℕ) (r : Searched) (places : length list
    ≡ 32) (bytes : length recording ≡ 1824)
    (is : r ≡ answer_of (search_outcome search_rom b (length list) (length recording)))
    (so : list' ≡ list_after list (search_outcome search_rom b (length list) (length recording))) where
  outcome : search_outcome search_rom b (length list) (length recording) ≡ searched_whole b
  outcome = ap (λ (n : ℕ). search_outcome search_rom b n (length recording)) places
      ∙ ap (λ (n : ℕ). search_outcome search_rom b 32 n) bytes

  refusal_is : r.refusal ≡ (searched_whole b).refusal
  refusal_is = ap (λ (q : Searched). q.refusal) is ∙ ap (λ (o : Outcome). o.refusal) outcome

  bench-is : r.bench ≡ (searched_whole b).bench
  bench-is = ap (λ (q : Searched). q.bench) is ∙ ap (λ (o : Outcome). o.bench) outcome

  codes-are : r.codes ≡ length (searched_whole b).listed
  codes-are = ap (λ (q : Searched). q.codes) is ∙ ap (λ (o : Outcome). length o.listed) outcome

  list-is : list' ≡ laid list 0 (searched_whole b).listed
  list-is = so ∙ ap (λ (o : Outcome). laid list 0 o.listed) outcome

  front : (r.codes ≤ length list') × (take r.codes list' ≡ (searched_whole b).listed)
      × (r.codes ≡ length (take r.codes list'))
  front = let few = (search-bounded search_rom b 32 1824).codes-most in
      laid-front list (searched_whole b).listed list' r.codes codes-are list-is (omega arith)

  pub listed-part : take r.codes list' ≡ (searched_whole b).listed
  listed-part = front.1

  pub listed-most : length (take r.codes list') ≤ 32
  listed-most = rw listed-part (search-bounded search_rom b 32 1824).codes-most

  pub listed-within : r.codes ≤ length list'
  listed-within = front.0

  pub refused-is : r.refusal ≢ accepted → pins_searched (searched_whole b) ≡ not_pinned r.refusal r.bench
  refused-is n =
      let other : eqb (searched_whole b).refusal accepted ≡ false =
      ap (λ (m : ℕ). eqb m accepted) (sym refusal_is) ∙ ne_eqb r.refusal accepted n in
      rw (other, refusal_is, bench-is)

  pub done-is : r.refusal ≡ accepted → pins_searched (searched_whole b)
      ≡ record { refusal = accepted; found = fold pins_step (nobody_read r.bench) (take r.codes list') }
  done-is e =
      let same : eqb (searched_whole b).refusal accepted ≡ true =
      ap (λ (m : ℕ). eqb m accepted) (sym refusal_is) ∙ eq-eqb r.refusal accepted e in
      rw (same, listed-part, bench-is)

-- one code adds at most one
few-either : (n : ℕ) (t : Bool) (x y : PinsFound) → length x.codes ≤ n → length y.codes ≤ n
    → length (if t then x else y).codes ≤ n
few-either n true x y h k = h
few-either n false x y h k = k

step-few : (f : PinsFound) (code : ℕ) → length (pins_step f code).codes ≤ length f.codes + 1
step-few f code =
    let n = length f.codes + 1 in
    let one : length (f.codes ++ (code ∷ [])) ≤ length f.codes + 1 =
    omega (arith, length-append f.codes (code ∷ [])) in
    let none : length f.codes ≤ length f.codes + 1 = omega arith in
    few-either n (is_pinned code) _ f (few-either n (eqb (read_at f.bench code).refusal accepted) _ _ one none) none

pub read-few : (f : PinsFound) (codes : List ℕ)
    → length (fold pins_step f codes).codes ≤ length f.codes + length codes
unfolding fold
read-few f [] = omega arith
read-few f (c ∷ codes) = let i = read-few (pins_step f c) codes in let s = step-few f c in omega arith

pub holds-answer : (list0 list : List ℕ) (r : Reading) (f : PinsFound) → Holds list0 list r f
    → record {
      refusal = accepted;
      codes = r.codes;
      pins = r.pins;
      shared = shared_pin (take r.codes r.pins);
      bench = r.bench;
    } ≡ pinned_of (record { refusal = accepted; found = f })
holds-answer list0 list r f h =
    let front : take r.codes r.pins ≡ f.pins =
    ap (λ (l : List ℕ). take r.codes l) h.pins-are
    ∙ ap (λ (n : ℕ). take n (laid (replicate 32 0) 0 f.pins)) (h.codes-are ∙ sym h.as_many)
    ∙ laid-read (replicate 32 0) 0 f.pins (omega arith) in
    rw (front, h.codes-are, h.pins-are, h.bench-is)

-- ## How many are found

even-either : (t : Bool) (x y : PinsFound) → length x.pins ≡ length x.codes → length y.pins ≡ length y.codes
    → length (if t then x else y).pins ≡ length (if t then x else y).codes
even-either true x y h k = h
even-either false x y h k = k

step-even : (f : PinsFound) (code : ℕ) → length f.pins ≡ length f.codes
    → length (pins_step f code).pins ≡ length (pins_step f code).codes
step-even f code h =
    let one : length (f.pins ++ (pins_shown (read_at f.bench code).pad ∷ [])) ≡ length (f.codes ++ (code ∷ [])) =
    length-append f.pins _ ∙ ap (λ (n : ℕ). n + 1) h ∙ sym (length-append f.codes (code ∷ [])) in
    even-either (is_pinned code) _ f (even-either (eqb (read_at f.bench code).refusal accepted) _ _ one h) h

read-even : (f : PinsFound) (codes : List ℕ) → length f.pins ≡ length f.codes
    → length (fold pins_step f codes).pins ≡ length (fold pins_step f codes).codes
unfolding fold
read-even f [] h = h
read-even f (c ∷ codes) h = read-even (pins_step f c) codes (step-even f c h)

-- at most 32, and as many pins
pub record Few (o : PinsOutcome) : Type 0 where
  pub most : length o.found.codes ≤ 32
  pub as_many : length o.found.pins ≡ length o.found.codes

few-answer : (t : Bool) (x y : PinsOutcome) → Few x → Few y → Few (if t then x else y)
few-answer true x y h k = h
few-answer false x y h k = k

pub found-few : (b : Bench) (places : ℕ) → Few (pins_outcome b places)
unfolding pins_outcome
found-few b places =
    let o = searched_whole b in
    let listed = (search-bounded search_rom b 32 1824).codes-most in
    let read = read-few (nobody_read o.bench) o.listed in
    few-answer (ltb places 32) _ _ (record { most = lit≤ tt; as_many = refl })
    (few-answer (eqb o.refusal accepted) _ _ (record {
      most = omega (arith, listed, read);
      as_many = read-even (nobody_read o.bench) o.listed refl;
    }) (record { most = lit≤ tt; as_many = refl }))
