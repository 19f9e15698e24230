-- The course of a search: what holds of every device at every slot of it, and what follows for a bus that may refuse.
-- Where a bus does in each slot of a search what another does, the two make the same search, `search-same`: so calls
-- that refuse while the wire is held make the search of a wire that is never held, if nothing in the course of a search
-- holds it.
--     AtEach M P bs d           P holds of d, which offers 1, at each of the bits bs that it hears
--     Course Z P                P holds of every device at every slot of a search
--     Throughout B Q offers ds  Q holds of the bus at every slot of a run; `pass-runs` and `unheard-runs` say it of the
--                               runs that a search makes
use Rattle.std.specs.Prelude.{◌≡◌, refl, Bool, false, ◌&&◌, cond}
use Rattle.std.proofs.Common.{◌∙◌}
use Rattle.std.proofs.Math.Bool.{true, and-true}
use Rattle.std.proofs.Math.Option.{Option, none, some}
use mathlib.Core.List.{List, [], ◌∷◌, ◌++◌, map}
use Prim.Native.Nat.{ℕ, zero, suc, ◌+◌, ◌<◌}
use native.Mathlib.Omega.{arith}
use Rattle.std.proofs.Math.ListN.{length}
use Rattle.basic_laws.specs.Fold.{all}
use Rattle.search_laws.specs.Codes.{Code, first, other_bits}
use Rattle.basic_laws.specs.Each.{Each}
use Rattle.search_laws.specs.Pass.{Triple, triple, Plan, choice, on_some, found, next}
use Rattle.search_laws.specs.Paths.{agrees}
use Rattle.search_laws.specs.Wire.{Bus, Pass, passed, with_triple, unanswered, with_code, triple_offers, pass_offers, slots}
use Rattle.search_laws.specs.Wire.{triplets, wire_pass, search_from, wire_search}
use Rattle.search_laws.specs.Searchers.{Model, Carries, Searchers}
use Rattle.search_laws.specs.Sits.{Sits, each-restart, sits-co, sits-way-next, sits_on}
use Rattle.search_laws.specs.Issued.{slots-append}
use Rattle.search_laws.specs.OnTheWire.{length-snoc, sits-started}

abbrev pub AtEach : (M : Model) → (M.Dev → Type 0) → List Bool → M.Dev → Type 0
AtEach M P [] d = Unit
AtEach M P (b ∷ bs) d = P d × ((M.offer d ≡ true) × AtEach M P bs (M.hear b d))

pub record Course {M : Model} {command : List Bool} {n : ℕ} (Z : Searchers M command n) (P : M.Dev
    → Type 0) : Type 0 where
  pub at-command : (d : M.Dev) → AtEach M P command (M.restart d)
  pub at_own : (j : ℕ) → j < n → (d : M.Dev) → Z.Own j d → P d
  pub at-co : (j : ℕ) → j < n → (d : M.Dev) → Z.Co j d → P d
  pub at-way : (j : ℕ) → j < n → (d : M.Dev) → Z.Way j d → P d
  pub at_out : (d : M.Dev) → Z.Out d → P d

-- ## Each device on the bus

record BitHeard (M : Model) (P : M.Dev → Type 0) (b : Bool) (bs : List Bool) (ds : List M.Dev) : Type 0 where
  pub held : Each P ds
  pub ones : all M.offer ds ≡ true
  pub others : Each (AtEach M P bs) (map (M.hear b) ds)

bit-heard : (M : Model) (P : M.Dev → Type 0) (b : Bool) (bs : List Bool) (ds : List M.Dev)
    → Each (AtEach M P (b ∷ bs)) ds → BitHeard M P b bs ds
unfolding all
bit-heard M P b bs [] h = record { held = tt; ones = refl; others = tt }
bit-heard M P b bs (d ∷ ds) h =
    let i = bit-heard M P b bs ds h.1 in
    record { held = (h.0.0, i.held); ones = rw (h.0.1.0, i.ones); others = (h.0.1.1, i.others) }

each-sits : {M : Model} {command : List Bool} {n : ℕ} (Z : Searchers M command n) (P R : M.Dev → Type 0)
    → ((d : M.Dev) → R d → P d)
    → ((d : M.Dev) → Z.Out d → P d) → (p : List Bool) (ds : List M.Dev) → Each (Sits Z p R) ds → Each P ds
each-sits Z P R h k p [] s = tt
each-sits {M} Z P R h k p (d ∷ ds) s = (go (Z.joins d && agrees p (Z.code d)) s.0, each-sits Z P R h k p ds s.1)
  where
    go : (b : Bool) → cond b (R d) (Z.Out d) → P d
    go true t = h d t
    go false t = k d t

-- ## Two buses of the same devices

module _ {B : Bus} {M : Model} (C : Carries B M) {command : List Bool} {n : ℕ} (Z : Searchers M command n) (P : M.Dev
    → Type 0) (K : Course Z P)
    (Q : B.Devices → Type 0)
    (by-slot : (x : Bool) (ds : B.Devices) → Each P (C.live ds) → Q ds → Q (B.after x ds))
    (by-reset : (ds : B.Devices) → Q ds → Q (B.reset ds))
    (line : Bool → B.Devices → Bool) (after : Bool → B.Devices → B.Devices) (reset : B.Devices → B.Devices)
    (same_line : (x : Bool) (ds : B.Devices) → Q ds → line x ds ≡ B.line x ds)
    (same_after : (x : Bool) (ds : B.Devices) → Q ds → after x ds ≡ B.after x ds)
    (same-reset : (ds : B.Devices) → Q ds → reset ds ≡ B.reset ds)
  where
    abbrev pub other : Bus
    other = record { Devices = B.Devices; line = line; after = after; reset = reset }

    slots_same : (bs : List Bool) (ds : B.Devices) → Each (AtEach M P bs) (C.live ds) → Q ds
        → (slots other bs ds ≡ slots B bs ds) × Q (slots B bs ds).devices
    unfolding slots
    slots_same [] ds h q = (refl, q)
    slots_same (b ∷ bs) ds h q =
        let t = bit-heard M P b bs (C.live ds) h in
        let e : B.line b ds ≡ b = C.line-is b ds ∙ rw t.ones (and-true b) in
        let u : C.live (B.after b ds) ≡ map (M.hear b) (C.live ds) = C.after_is b ds ∙ rw e in
        let i = slots_same bs (B.after b ds) (rw u t.others) (by-slot b ds t.held q) in
        (rw (same_line b ds q, same_after b ds q, i.0), i.1)

    triplets-same : (m : ℕ) (plan : Plan) (p : List Bool) (ds : B.Devices) → length p + m ≡ n
        → Each (Sits Z p (Z.Own (length p))) (C.live ds) → Q ds
        → (triplets other m plan ds ≡ triplets B m plan ds) × Q (triplets B m plan ds).devices
    unfolding triplets
    triplets-same zero plan p ds e s q = (refl, q)
    triplets-same (suc m) plan p ds e s q =
        let l : length p < n = omega arith in
        let once = B.after true ds in
        let two = B.after true once in
        let q1 = by-slot true ds (each-sits Z P (Z.Own (length p)) (K.at_own (length p) l) K.at_out p (C.live ds)
        s) q in
        let q2 = by-slot true once (each-sits Z P (Z.Co (length p)) (K.at-co (length p) l) K.at_out p
        (C.live once) (sits-co C Z p l ds s)) q1 in
        let w = each-sits Z P (Z.Way (length p)) (K.at-way (length p) l) K.at_out p (C.live two)
        (sits-way-next C Z p l ds s) in
        let i : (d : Bool) → (triplets other m (other_bits plan) (B.after d two)
        ≡ triplets B m (other_bits plan) (B.after d two))
        × Q (triplets B m (other_bits plan) (B.after d two)).devices =
        λ d. triplets-same m (other_bits plan) (p
        ++ d ∷ []) (B.after d two) (omega (arith, length-snoc p d)) (rw length-snoc (sits_on C Z p l ds s d))
        (by-slot d two w q2) in
        rw (same_line true ds q, same_after true ds q, same_line true once q1, same_after true once q1)
        (by-choice (B.line true ds) (B.line true once) two q2 i
        (choice (B.line true ds) (B.line true once) (first plan)))
      where
        by-choice : (a b : Bool) (two : B.Devices) → Q two
            → ((d : Bool) → (triplets other m (other_bits plan) (B.after d two)
            ≡ triplets B m (other_bits plan) (B.after d two))
            × Q (triplets B m (other_bits plan) (B.after d two)).devices)
            → (o : Option Bool)
            → (on_some o (passed none (a ∷ b ∷ []) two)
            (λ d. with_triple (triple a b d) (line d two) (triplets other m (other_bits plan) (after d two)))
            ≡ on_some o (passed none (a ∷ b ∷ []) two)
            (λ d. with_triple (triple a b d) (B.line d two) (triplets B m (other_bits plan) (B.after d two))))
            × Q (on_some o (passed none (a ∷ b ∷ []) two)
            (λ d. with_triple (triple a b d) (B.line d two)
            (triplets B m (other_bits plan) (B.after d two)))).devices
        by-choice a b two r i none = (refl, r)
        by-choice a b two r i (some d) = (rw (same_line d two r, same_after d two r, (i d).0), (i d).1)

    pass_same : (plan : Plan) (ds : B.Devices) → Q ds
        → (wire_pass other command n plan ds ≡ wire_pass B command n plan ds) × Q (wire_pass B command n plan ds).devices
    pass_same plan ds q =
        let h : Each (AtEach M P command) (C.live (B.reset ds)) =
        rw (C.reset-is ds) (each-restart Z (AtEach M P command) K.at-command (C.live ds)) in
        let s = slots_same command (B.reset ds) h (by-reset ds q) in
        let t = triplets-same n plan [] (slots B command (B.reset ds)).devices (omega arith) (sits-started C Z ds)
        s.1 in
        (rw (same-reset ds q, s.0, t.0), t.1)

    search-from-same : (fuel : ℕ) (o : Option Plan) (ds : B.Devices) → Q ds
        → (search_from other command fuel n o ds ≡ search_from B command fuel n o ds)
        × Q (search_from B command fuel n o ds).devices
    unfolding search_from
    search-from-same zero o ds q = (refl, q)
    search-from-same (suc fuel) none ds q = (refl, q)
    search-from-same (suc fuel) (some plan) ds q =
        let r = pass_same plan ds q in
        let i : (o : Option Plan) → (search_from other command fuel n o (wire_pass B command n plan ds).devices
        ≡ search_from B command fuel n o (wire_pass B command n plan ds).devices)
        × Q (search_from B command fuel n o (wire_pass B command n plan ds).devices).devices =
        λ o. search-from-same fuel o (wire_pass B command n plan ds).devices r.1 in
        by-pass (wire_pass other command n plan ds) (wire_pass B command n plan ds) r.0 r.1 i
      where
        by_answer : (p : Pass B.Devices) → Q p.devices
            → ((o : Option Plan) → (search_from other command fuel n o p.devices
            ≡ search_from B command fuel n o p.devices) × Q (search_from B command fuel n o p.devices).devices)
            → (o : Option (List Triple))
            → (on_some o (unanswered p) (λ ts. with_code (found ts) p.lines
            (search_from other command fuel n (next ts) p.devices))
            ≡ on_some o (unanswered p) (λ ts. with_code (found ts) p.lines
            (search_from B command fuel n (next ts) p.devices)))
            × Q (on_some o (unanswered p) (λ ts. with_code (found ts) p.lines
            (search_from B command fuel n (next ts) p.devices))).devices
        by_answer p r i none = (refl, r)
        by_answer p r i (some ts) = (rw (i (next ts)).0, (i (next ts)).1)

        by-pass : (p' p : Pass B.Devices) → p' ≡ p → Q p.devices
            → ((o : Option Plan) → (search_from other command fuel n o p.devices
            ≡ search_from B command fuel n o p.devices) × Q (search_from B command fuel n o p.devices).devices)
            → (on_some p'.triples (unanswered p')
            (λ ts. with_code (found ts) p'.lines (search_from other command fuel n (next ts) p'.devices))
            ≡ on_some p.triples (unanswered p) (λ ts. with_code (found ts) p.lines
            (search_from B command fuel n (next ts) p.devices)))
            × Q (on_some p.triples (unanswered p)
            (λ ts. with_code (found ts) p.lines (search_from B command fuel n (next ts) p.devices))).devices
        by-pass p' p e r i = rw e (by_answer p r i p.triples)

    pub search-same : (fuel : ℕ) (ds : B.Devices) → Q ds
        → wire_search other command fuel n ds ≡ wire_search B command fuel n ds
    search-same fuel ds q = (search-from-same fuel (some []) ds q).0

-- ## What holds at every slot of a run

-- Q holds of the devices at each slot in which the master offers these
abbrev pub Throughout : (B : Bus) → (B.Devices → Type 0) → List Bool → B.Devices → Type 0
Throughout B Q [] ds = Unit
Throughout B Q (x ∷ xs) ds = Q ds × Throughout B Q xs (B.after x ds)

-- Q holds at each slot of a run, and after it
pub record Runs (B : Bus) (Q : B.Devices → Type 0) (offers : List Bool) (ds : B.Devices) : Type 0 where
  pub throughout : Throughout B Q offers ds
  pub after-it : Q (slots B offers ds).devices

-- one run after another
pub runs_append : (B : Bus) (Q : B.Devices → Type 0) (xs ys : List Bool) (ds : B.Devices) → Runs B Q xs ds
    → Runs B Q ys (slots B xs ds).devices
    → Runs B Q (xs ++ ys) ds
unfolding slots
runs_append B Q xs ys ds r s = record {
  throughout = both xs ds r.throughout s.throughout;
  after-it = rw (slots-append B xs ys ds) s.after-it;
}
  where
    both : (xs : List Bool) (ds : B.Devices) → Throughout B Q xs ds → Throughout B Q ys (slots B xs ds).devices
        → Throughout B Q (xs ++ ys) ds
    both [] ds t u = u
    both (x ∷ xs) ds t u = (t.0, both xs (B.after x ds) t.1 u)

module _ {B : Bus} {M : Model} (C : Carries B M) (P : M.Dev → Type 0) (Q : B.Devices → Type 0)
    (by-slot : (x : Bool) (ds : B.Devices) → Each P (C.live ds) → Q ds → Q (B.after x ds))
  where
    -- bits that every device hears as the master offers them
    pub heard-runs : (bs : List Bool) (ds : B.Devices) → Each (AtEach M P bs) (C.live ds) → Q ds → Runs B Q bs ds
    unfolding slots
    heard-runs [] ds h q = record { throughout = tt; after-it = q }
    heard-runs (b ∷ bs) ds h q =
        let t = bit-heard M P b bs (C.live ds) h in
        let e : B.line b ds ≡ b = C.line-is b ds ∙ rw t.ones (and-true b) in
        let u : C.live (B.after b ds) ≡ map (M.hear b) (C.live ds) = C.after_is b ds ∙ rw e in
        let i = heard-runs bs (B.after b ds) (rw u t.others) (by-slot b ds t.held q) in
        record { throughout = (q, i.throughout); after-it = i.after-it }

    module _ (by-reset : (ds : B.Devices) → Q ds
        → Q (B.reset ds)) {command : List Bool} {n : ℕ} (Z : Searchers M command n) (K : Course Z P) where
      -- the slots of some bits, once the path p has been sent
      triple-runs : (c : Code) (p : List Bool) (ds : B.Devices) → length p + length c ≡ n
          → Each (Sits Z p (Z.Own (length p))) (C.live ds) → Q ds
          → Runs B Q (triple_offers c) ds
      unfolding triple_offers slots
      triple-runs [] p ds e s q = record { throughout = tt; after-it = q }
      triple-runs (d ∷ c) p ds e s q =
          let l : length p < n = omega arith in
          let once = B.after true ds in
          let two = B.after true once in
          let q1 = by-slot true ds (each-sits Z P (Z.Own (length p)) (K.at_own (length p) l) K.at_out p
          (C.live ds) s) q in
          let q2 = by-slot true once (each-sits Z P (Z.Co (length p)) (K.at-co (length p) l) K.at_out p
          (C.live once) (sits-co C Z p l ds s)) q1 in
          let q3 = by-slot d two (each-sits Z P (Z.Way (length p)) (K.at-way (length p) l) K.at_out p (C.live two)
          (sits-way-next C Z p l ds s)) q2 in
          let i = triple-runs c (p ++ d ∷ []) (B.after d two) (omega (arith, length-snoc p d))
          (rw length-snoc (sits_on C Z p l ds s d)) q3 in
          record { throughout = (q, (q1, (q2, i.throughout))); after-it = i.after-it }

      command-runs : (ds : B.Devices) → Q ds → Runs B Q command (B.reset ds)
      command-runs ds q =
          let h : Each (AtEach M P command) (C.live (B.reset ds)) =
          rw (C.reset-is ds) (each-restart Z (AtEach M P command) K.at-command (C.live ds)) in
          heard-runs command (B.reset ds) h (by-reset ds q)

      -- the slots of a pass for any code
      pub pass-runs : (c : Code) (ds : B.Devices) → length c ≡ n → Q ds → Runs B Q (pass_offers command c) (B.reset ds)
      pass-runs c ds e q =
          let r = command-runs ds q in
          let t = triple-runs c [] (slots B command (B.reset ds)).devices (omega arith) (sits-started C Z ds)
          r.after-it in
          runs_append B Q command (triple_offers c) (B.reset ds) r t

      -- the command and two reads
      pub unheard-runs : (ds : B.Devices) → 0 < n → Q ds → Runs B Q (command ++ true ∷ true ∷ []) (B.reset ds)
      unfolding slots
      unheard-runs ds l q =
          let r = command-runs ds q in
          let es = (slots B command (B.reset ds)).devices in
          let once = B.after true es in
          let s = sits-started C Z ds in
          let q1 = by-slot true es (each-sits Z P (Z.Own 0) (K.at_own 0 l) K.at_out [] (C.live es) s)
          r.after-it in
          let q2 = by-slot true once (each-sits Z P (Z.Co 0) (K.at-co 0 l) K.at_out [] (C.live once)
          (sits-co C Z [] l es s)) q1 in
          runs_append B Q command (true ∷ true ∷ []) (B.reset ds) r
          (record { throughout = (r.after-it, (q1, tt)); after-it = q2 })
