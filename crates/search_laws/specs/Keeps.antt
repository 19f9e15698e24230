-- What a search leaves alone in each device: whatever a device keeps at a reset with the command and while it searches
-- or is quiet, it has after a whole search as before it, `search-keeps`. So the stored bytes and the activity, of which
-- only the stage of the protocol changes in a search.
--     heard-keeps M bs d      d after it has heard the bits bs
--     Keeps Z f               a device keeps f in the course of a search
use Rattle.std.specs.Prelude.{◌≡◌, Bool, false, ◌&&◌, cond}
use Rattle.std.proofs.Math.Path.{refl, sym}
use Rattle.std.proofs.Common.{◌∙◌}
use Rattle.std.proofs.Math.Bool.{true, and-true}
use Rattle.std.proofs.Math.Option.{Option, none, some}
use mathlib.Core.List.{List, [], ◌∷◌, ◌++◌, map}
use Prim.Native.Nat.{ℕ, zero, suc, ◌+◌, ◌<◌}
use native.Mathlib.Omega.{arith}
use Rattle.std.proofs.Math.ListN.{length}
use Rattle.search_laws.specs.Codes.{first, other_bits}
use Rattle.basic_laws.specs.Each.{Each}
use Rattle.search_laws.specs.Pass.{triple, Plan, choice, found, next}
use Rattle.search_laws.specs.PassLaws.{on_some_lem}
use Rattle.search_laws.specs.Paths.{agrees}
use Rattle.search_laws.specs.Wire.{Bus, Pass, passed, with_triple, Search, unanswered, with_code, slots, triplets}
use Rattle.search_laws.specs.Wire.{wire_pass, search_from, wire_search}
use Rattle.search_laws.specs.Searchers.{Model, Carries, Takes, Searchers}
use Rattle.search_laws.specs.Sits.{Sits, take-bit, sits-co, sits-way-next, sits_on}
use Rattle.search_laws.specs.OnTheWire.{length-snoc, Starts, takes-command, sits-started}

abbrev pub heard-keeps : (M : Model) → List Bool → M.Dev → M.Dev
heard-keeps M [] d = d
heard-keeps M (b ∷ bs) d = heard-keeps M bs (M.hear b d)

pub record Keeps {M : Model} {command : List Bool} {n : ℕ} (Z : Searchers M command n) {A : Type 0} (f : M.Dev
    → A) : Type 0 where
  pub command-keeps : (d : M.Dev) → f (heard-keeps M command (M.restart d)) ≡ f d
  pub own-keeps : (j : ℕ) → j < n → (x : Bool) (d : M.Dev) → Z.Own j d → f (M.hear x d) ≡ f d
  pub co-keeps : (j : ℕ) → j < n → (x : Bool) (d : M.Dev) → Z.Co j d → f (M.hear x d) ≡ f d
  pub way-keeps : (j : ℕ) → j < n → (x : Bool) (d : M.Dev) → Z.Way j d → f (M.hear x d) ≡ f d
  pub out-keeps : (x : Bool) (d : M.Dev) → Z.Out d → f (M.hear x d) ≡ f d

module _ {B : Bus} {M : Model} (C : Carries B M) {command : List Bool} {n : ℕ} (Z : Searchers M command n) {A : Type 0}
    (f : M.Dev → A) (K : Keeps Z f) where
  -- What each device on the bus has of it.
  abbrev pub had : B.Devices → List A
  had ds = map f (C.live ds)

  -- ## The reset and the command

  map-heard : (b : Bool) (bs : List Bool) (ds : List M.Dev)
      → map (heard-keeps M bs) (map (M.hear b) ds) ≡ map (heard-keeps M (b ∷ bs)) ds
  map-heard b bs [] = refl
  map-heard b bs (d ∷ ds) = let i = map-heard b bs ds in rw i

  map_same : (ds : List M.Dev) → map (heard-keeps M []) ds ≡ ds
  map_same [] = refl
  map_same (d ∷ ds) = let i = map_same ds in rw i

  slots-heard : (P : M.Dev → Type 0) (bs : List Bool) (ds : B.Devices) → Each (Takes M P bs) (C.live ds)
      → C.live (slots B bs ds).devices ≡ map (heard-keeps M bs) (C.live ds)
  unfolding slots
  slots-heard P [] ds h = sym (map_same (C.live ds))
  slots-heard P (b ∷ bs) ds h =
      let t = take-bit Z P b bs (C.live ds) h in
      let e : B.line b ds ≡ b = C.line-is b ds ∙ rw t.0 (and-true b) in
      let u : C.live (B.after b ds) ≡ map (M.hear b) (C.live ds) = C.after_is b ds ∙ rw e in
      let i = slots-heard P bs (B.after b ds) (rw u t.1) in
      i ∙ rw u (map-heard b bs (C.live ds))

  map-command : (ds : List M.Dev) → map f (map (heard-keeps M command) (map M.restart ds)) ≡ map f ds
  map-command [] = refl
  map-command (d ∷ ds) = let i = map-command ds in rw (K.command-keeps d, i)

  started-keeps : (ds : B.Devices) → had (slots B command (B.reset ds)).devices ≡ had ds
  started-keeps ds =
      let i = slots-heard (Starts C Z) command (B.reset ds) (takes-command C Z ds) in
      rw (i, C.reset-is ds) (map-command (C.live ds))

  -- ## The slots of the bits

  sit-keeps : (p : List Bool) (P : M.Dev → Type 0) (x : Bool) → ((d : M.Dev) → P d → f (M.hear x d) ≡ f d)
      → (ds : List M.Dev)
      → Each (Sits Z p P) ds → map f (map (M.hear x) ds) ≡ map f ds
  sit-keeps p P x h [] s = refl
  sit-keeps p P x h (d ∷ ds) s =
      let i = sit-keeps p P x h ds s.1 in
      let e = go (Z.joins d && agrees p (Z.code d)) s.0 in
      rw (e, i)
    where
      go : (b : Bool) → cond b (P d) (Z.Out d) → f (M.hear x d) ≡ f d
      go true t = h d t
      go false t = K.out-keeps x d t

  slot-keeps : (p : List Bool) (P : M.Dev → Type 0) (x : Bool) (ds : B.Devices)
      → ((y : Bool) (d : M.Dev) → P d → f (M.hear y d) ≡ f d)
      → Each (Sits Z p P) (C.live ds) → had (B.after x ds) ≡ had ds
  slot-keeps p P x ds h s = rw (C.after_is x ds) (sit-keeps p P (B.line x ds) (h (B.line x ds)) (C.live ds) s)

  triplets-keep : (m : ℕ) (plan : Plan) (p : List Bool) (ds : B.Devices) → length p + m ≡ n
      → Each (Sits Z p (Z.Own (length p))) (C.live ds)
      → had (triplets B m plan ds).devices ≡ had ds
  unfolding triplets
  triplets-keep zero plan p ds e s = refl
  triplets-keep (suc m) plan p ds e s =
      let l : length p < n = omega arith in
      let j = length p in
      let once = B.after true ds in
      let two = B.after true once in
      let a = B.line true ds in
      let b = B.line true once in
      let t = slot-keeps p (Z.Co j) true once (K.co-keeps j l) (sits-co C Z p l ds s)
      ∙ slot-keeps p (Z.Own j) true ds (K.own-keeps j l) s in
      let i : (d : Bool) → had (triplets B m (other_bits plan) (B.after d two)).devices ≡ had ds =
      λ d.
      triplets-keep m (other_bits plan) (p ++ d ∷ []) (B.after d two) (omega (arith, length-snoc p d))
      (rw length-snoc (sits_on C Z p l ds s d))
      ∙ slot-keeps p (Z.Way j) d two (K.way-keeps j l) (sits-way-next C Z p l ds s) ∙ t in
      on_some_lem (λ (r : Pass B.Devices). had r.devices
      ≡ had ds) (choice a b (first plan)) (passed none (a ∷ b ∷ []) two)
      (λ d. with_triple (triple a b d) (B.line d two) (triplets B m (other_bits plan) (B.after d two))) t i

  pub pass-keeps : (plan : Plan) (ds : B.Devices) → had (wire_pass B command n plan ds).devices ≡ had ds
  pass-keeps plan ds = triplets-keep n plan [] (slots B command (B.reset ds)).devices (omega arith)
      (sits-started C Z ds) ∙ started-keeps ds

  search-from-keeps : (fuel : ℕ) (o : Option Plan) (ds : B.Devices)
      → had (search_from B command fuel n o ds).devices ≡ had ds
  unfolding search_from
  search-from-keeps zero o ds = refl
  search-from-keeps (suc fuel) none ds = refl
  search-from-keeps (suc fuel) (some plan) ds =
      let p = wire_pass B command n plan ds in
      let t = pass-keeps plan ds in
      let i : (o : Option Plan) → had (search_from B command fuel n o p.devices).devices ≡ had ds =
      λ o. search-from-keeps fuel o p.devices ∙ t in
      on_some_lem (λ (s : Search B.Devices). had s.devices ≡ had ds) p.triples (unanswered p)
      (λ ts. with_code (found ts) p.lines (search_from B command fuel n (next ts) p.devices)) t (λ ts. i (next ts))

  pub search-keeps : (fuel : ℕ) (ds : B.Devices) → had (wire_search B command fuel n ds).devices ≡ had ds
  search-keeps fuel ds = search-from-keeps _ _ ds
