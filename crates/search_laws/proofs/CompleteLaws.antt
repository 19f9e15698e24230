-- The search finds everybody: on a bus of devices that meet the laws it is `Complete`; where nobody takes part it makes
-- one pass, of the command and two reads.
use Rattle.std.specs.Prelude.{◌≡◌, refl, Bool, false, length}
use Rattle.std.proofs.Common.{sym, ◌∙◌, arith}
use Rattle.std.proofs.Math.Path.{ap}
use Rattle.std.proofs.Math.Bool.{true}
use Rattle.std.proofs.Math.Option.{Option, none, some, map}
use mathlib.Core.List.{List, [], ◌∷◌, ◌++◌}
use Prim.Native.Nat.{ℕ, zero, suc, ◌≤◌, ◌<◌}
use Rattle.search_laws.specs.Codes.{Code, first, other_bits, line_of_codes, co_line, follow, nobody, Sized}
use Rattle.basic_laws.specs.Each.{Each, Distinct, Along}
use Rattle.search_laws.specs.Pass.{Triple, triple, Plan, choice, on_some, pass, found}
use Rattle.search_laws.specs.PassLaws.{never}
use Rattle.search_laws.specs.Listing.{in_order}
use Rattle.search_laws.proofs.ListingLaws.{order-pairs, order-all, order-length}
use Rattle.basic_laws.specs.EachLaws.{each-perm}
use Rattle.search_laws.specs.Lists.{Lists, end, more}
use Rattle.search_laws.proofs.Lists.{lists}
use Rattle.search_laws.specs.Wire.{Bus, run, passed, searched, pass_offers, slots, passes, triplets, wire_pass}
use Rattle.search_laws.specs.Wire.{search_from, wire_search}
use Rattle.search_laws.specs.Issued.{longer-option, slots-append, pass-issued, passes_count, passes-slots}
use Rattle.search_laws.specs.Searchers.{Model, Carries, Searchers}
use Rattle.search_laws.specs.Holds.{search-holds}
use Rattle.search_laws.specs.Sits.{on_bus, on-bus-after, on-bus-reset}
use Rattle.search_laws.specs.OnTheWire.{pass-on-wire, pass-lines, on-bus-pass, command-shown, nobody-reads}
use Rattle.search_laws.specs.Complete.{allowed, PassShown, Complete, swept_passes}

-- Each triple of a pass is allowed.
choice-allowed : (a b w d : Bool) → choice a b w ≡ some d → allowed (triple a b d) ≡ true
choice-allowed false false w d e = refl
choice-allowed false true w d e = let f : d ≡ false = cc in rw f
choice-allowed true false w d e = let f : d ≡ true = cc in rw f
choice-allowed true true w d e = absurd (never e)

pass-allowed : (n : ℕ) (plan : Plan) (S : List Code) (ts : List Triple) → pass n plan S ≡ some ts
    → Each (λ t. allowed t ≡ true) ts
unfolding pass
pass-allowed zero plan S ts e = let f : ts ≡ [] = cc in rw f tt
pass-allowed (suc n) plan S ts e =
    by-choice (choice (line_of_codes S) (co_line S) (first plan)) refl
    (λ d. pass-allowed n (other_bits plan) (follow d S)) e
  where
    by-choice : (o : Option Bool) → choice (line_of_codes S) (co_line S) (first plan) ≡ o
        → ((d : Bool) (us : List Triple) → pass n (other_bits plan) (follow d S) ≡ some us
        → Each (λ t. allowed t ≡ true) us)
        → on_some o none (λ d. map (λ us. triple (line_of_codes S) (co_line S) d ∷ us)
        (pass n (other_bits plan) (follow d S))) ≡ some ts
        → Each (λ t. allowed t ≡ true) ts
    by-choice none f i g = absurd (never g)
    by-choice (some d) f i g =
        let k = longer-option (triple (line_of_codes S) (co_line S) d) _ ts g in
        rw k.is (choice-allowed (line_of_codes S) (co_line S) (first plan) d f, i d k.others k.others-is)

module _ {B : Bus} {M : Model} (C : Carries B M) {command : List Bool} {n : ℕ} (Z : Searchers M command n) where
  -- A pass that finds a code is a run of its slots, and shows what it is to show.
  pass-run : (plan : Plan) (ds : B.Devices) (ts : List Triple) → pass n plan (on_bus C Z ds) ≡ some ts
      → run (wire_pass B command n plan ds).lines (wire_pass B command n plan ds).devices
      ≡ slots B (pass_offers command (found ts)) (B.reset ds)
  pass-run plan ds ts e = pass-issued B command n plan ds ts (pass-on-wire C Z plan ds ∙ e)

  pass-shown : (plan : Plan) (ds : B.Devices) (ts : List Triple) → pass n plan (on_bus C Z ds) ≡ some ts
      → PassShown command (found ts) (wire_pass B command n plan ds).lines
  pass-shown plan ds ts e =
      record {
        triples = ts;
        lines_are = pass-lines C Z plan ds ts e;
        code_is = refl;
        all-allowed = pass-allowed n plan (on_bus C Z ds) ts e;
      }

  -- A search that is to list cs lists cs.
  search-lists : (fuel : ℕ) {o : Option Plan} {cs : List Code} (S : List Code) (ds : B.Devices) → on_bus C Z ds ≡ S
      → Lists n S o cs → length cs ≤ fuel
      → (search_from B command fuel n o ds ≡ swept_passes B command cs ds)
      × Along (PassShown command) cs (passes B command cs ds).lines
  unfolding search_from passes
  search-lists zero S ds e end h = (refl, tt)
  search-lists (suc fuel) S ds e end h = (refl, tt)
  search-lists zero S ds e (more plan ts f r) h = absurd (omega arith)
  search-lists (suc fuel) S ds e (more plan ts f r) h =
      let g : pass n plan (on_bus C Z ds) ≡ some ts = ap (pass n plan) e ∙ f in
      let w = pass-on-wire C Z plan ds ∙ g in
      let u = pass-run plan ds ts g in
      let es = (wire_pass B command n plan ds).devices in
      let i = search-lists fuel S es (on-bus-pass C Z plan ds ∙ e) r (omega arith) in
      rw (w, ← u) (rw i.0, (pass-shown plan ds ts g, i.1))

  -- A search is the passes of the listing, where somebody takes part.
  pub search_is : (fuel : ℕ) (ds : B.Devices) → Sized n (on_bus C Z ds) → Distinct (on_bus C Z ds)
      → nobody (on_bus C Z ds) ≡ false
      → length (on_bus C Z ds) ≤ fuel → wire_search B command fuel n ds
      ≡ swept_passes B command (in_order n (on_bus C Z ds)) ds
  search_is fuel ds s d h f =
      let l = order-length n (on_bus C Z ds) s d in
      (search-lists fuel (on_bus C Z ds) ds refl (lists n (on_bus C Z ds) h) (omega arith)).0

  -- Where somebody takes part.
  pub search-complete : (fuel : ℕ) (ds : B.Devices) → Sized n (on_bus C Z ds) → Distinct (on_bus C Z ds)
      → nobody (on_bus C Z ds) ≡ false
      → length (on_bus C Z ds) ≤ fuel → Complete B command n (on_bus C Z ds) ds (wire_search B command fuel n ds)
  search-complete fuel ds s d h f =
      let S = on_bus C Z ds in
      let l = order-length n S s d in
      let r = search-lists fuel S ds refl (lists n S h) (omega arith) in
      rw r.0 (record {
        all_listed = order-all n S s d;
        ordered = order-pairs n S;
        passes-are = passes_count B command (in_order n S) ds ∙ sym l;
        slots-are = passes-slots B command n (in_order n S) ds (each-perm (λ c. length c ≡ n) (order-all n S s d) s);
        slots-issued = refl;
        frames = r.1;
      })

  -- Where nobody takes part.
  triplets-nobody : (m : ℕ) (plan : Plan) (ds : B.Devices) → 0 < m → B.line true ds ≡ true
      → B.line true (B.after true ds) ≡ true
      → triplets B m plan ds ≡ passed none (true ∷ true ∷ []) (B.after true (B.after true ds))
  unfolding triplets
  triplets-nobody zero plan ds h a b = absurd (omega arith)
  triplets-nobody (suc m) plan ds h a b = rw (a, b)

  pub search-nobody : (fuel : ℕ) (ds : B.Devices) → 0 < n → on_bus C Z ds ≡ []
      → wire_search B command (suc fuel) n ds
      ≡ searched [] ((command ++ true ∷ true ∷ []) ∷ []) (slots B (command ++ true ∷ true ∷ []) (B.reset ds)).devices
  unfolding search_from slots
  search-nobody fuel ds h e =
      let es = (slots B command (B.reset ds)).devices in
      let r = nobody-reads C Z h ds e in
      let t = triplets-nobody n [] es h r.0 r.1 in
      let l = command-shown C Z ds in
      simp (t, l, slots-append B command (true ∷ true ∷ []) (B.reset ds))

  -- Who takes part stays the same, so that a search may follow a search.
  pub search-on-bus : (fuel : ℕ) (ds : B.Devices) → on_bus C Z (wire_search B command fuel n ds).devices ≡ on_bus C Z ds
  search-on-bus fuel ds =
      search-holds B (λ es. on_bus C Z es ≡ on_bus C Z ds) (λ x es e. on-bus-after C Z x es
      ∙ e) (λ es e. on-bus-reset C Z es ∙ e) command n fuel ds refl

  -- A second search lists the same.
  pub search-again : (fuel : ℕ) (ds : B.Devices) → Sized n (on_bus C Z ds) → Distinct (on_bus C Z ds)
      → nobody (on_bus C Z ds) ≡ false
      → length (on_bus C Z ds) ≤ fuel
      → (wire_search B command fuel n (wire_search B command fuel n ds).devices).codes
      ≡ (wire_search B command fuel n ds).codes
  search-again fuel ds s d h f =
      let e = search-on-bus fuel ds in
      let a = search_is fuel ds s d h f in
      let b = search_is fuel (wire_search B command fuel n ds).devices (rw e s) (rw e d) (rw e h) (rw e f) in
      ap (λ r. r.codes) b ∙ ap (in_order n) e ∙ sym (ap (λ r. r.codes) a)
