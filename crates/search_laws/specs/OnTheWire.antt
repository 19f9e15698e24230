-- A pass on a bus of devices that meet the laws is the pass over the codes of those that take part, and the line shows
-- the command's own bits and then the triples: `pass-on-wire`. Who takes part stays the same.
--     triples_shown ts          the line's bits of some triples
--     Walks o r                the slots of the bits in r had the triples o, and the line showed just these
use Rattle.std.specs.Prelude.{◌≡◌, refl, Bool, true, cond}
use Rattle.std.proofs.Math.Path.{ap}
use Rattle.std.proofs.Common.{◌∙◌, length-append}
use Rattle.std.proofs.Math.Bool.{and-true}
use Rattle.std.proofs.Math.Option.{Option, none, some, map}
use mathlib.Core.List.{List, [], ◌∷◌, ◌++◌}
use Prim.Native.Nat.{ℕ, zero, suc, ◌+◌, ◌<◌}
use native.Mathlib.Omega.{arith}
use Rattle.std.proofs.Math.ListN.{length}
use Rattle.basic_laws.specs.Fold.{all}
use Rattle.search_laws.specs.Codes.{first, other_bits, line_of_codes, co_line, follow}
use Rattle.basic_laws.specs.EachLaws.{each-implies}
use Rattle.basic_laws.specs.Each.{Each}
use Rattle.search_laws.specs.Pass.{Triple, triple, Plan, choice, pass}
use Rattle.search_laws.specs.PassLaws.{on_both, never}
use Rattle.search_laws.specs.Paths.{on_path, path-nil, agrees-nil, path-snoc}
use Rattle.search_laws.specs.Wire.{Bus, Pass, passed, with_triple, slots, triplets, wire_pass}
use Rattle.search_laws.specs.Issued.{longer-option}
use Rattle.search_laws.specs.Holds.{slots-hold, pass-holds}
use Rattle.search_laws.specs.Searchers.{Model, Carries, Takes, Searchers}
use Rattle.search_laws.specs.Sits.{Sits, each-restart, take-bit, on_bus, on-bus-after, on-bus-reset, twice}
use Rattle.search_laws.specs.Sits.{read-bit, read-co-bit, write-bit, sits_on}

unfoldable pub triples_shown : List Triple → List Bool
triples_shown [] = []
triples_shown (t ∷ ts) = t.bit ∷ t.co_bit ∷ t.sent ∷ triples_shown ts

pub record Walks {D : Type 0} (o : Option (List Triple)) (r : Pass D) : Type 0 where
  pub triples-are : r.triples ≡ o
  pub lines_are : (ts : List Triple) → o ≡ some ts → r.lines ≡ triples_shown ts

walks-none : {D : Type 0} (l : List Bool) (ds : D) → Walks none (passed none l ds)
walks-none l ds = record { triples-are = refl; lines_are = λ ts e. absurd (never e) }

walks_more : {D : Type 0} (t : Triple) (o : Option (List Triple)) (r : Pass D) → Walks o r
    → Walks (map (λ ts. t ∷ ts) o) (with_triple t t.sent r)
unfolding triples_shown
walks_more t o r w = record {
  triples-are = rw w.triples-are;
  lines_are = λ ts e.
      let k = longer-option t o ts e in
      let i = w.lines_are k.others k.others-is in
      rw (k.is, i);
}

pub length-snoc : (p : List Bool) (d : Bool) → length (p ++ d ∷ []) ≡ suc (length p)
length-snoc p d = omega (arith, length-append p (d ∷ []))

module _ {B : Bus} {M : Model} (C : Carries B M) {command : List Bool} {n : ℕ} (Z : Searchers M command n) where
  triplets-walk : (m : ℕ) (plan : Plan) (p : List Bool) (ds : B.Devices) → length p + m ≡ n
      → Each (Sits Z p (Z.Own (length p))) (C.live ds)
      → Walks (pass m plan (on_path p (on_bus C Z ds))) (triplets B m plan ds)
  unfolding triplets pass triples_shown
  triplets-walk zero plan p ds e s = record { triples-are = refl; lines_are = λ ts f. let g : ts ≡ [] = cc in rw g }
  triplets-walk (suc m) plan p ds e s =
      let l : length p < n = omega arith in
      let S = on_path p (on_bus C Z ds) in
      let two = twice C Z p l ds s in
      let i : (d : Bool) → Walks (pass m (other_bits plan) (follow d S))
      (triplets B m (other_bits plan) (B.after d two)) =
      λ d.
      let k : length (p ++ d ∷ []) + m ≡ n = omega (arith, length-snoc p d) in
      let t : Each (Sits Z (p ++ d ∷ []) (Z.Own (length (p ++ d ∷ [])))) (C.live (B.after d two)) =
      rw length-snoc (sits_on C Z p l ds s d) in
      simp (path-snoc, on-bus-after) at (triplets-walk m (other_bits plan) (p ++ d ∷ []) (B.after d two) k t) in
      rw (read-bit C Z p l ds s, read-co-bit C Z p l ds s)
      (on_both Walks (choice (line_of_codes S) (co_line S) (first plan)) none
      (λ d. map (λ ts. triple (line_of_codes S) (co_line S) d ∷ ts) (pass m (other_bits plan) (follow d S)))
      (passed none (line_of_codes S ∷ co_line S ∷ []) two)
      (λ d. with_triple (triple (line_of_codes S) (co_line S) d) (B.line d two)
      (triplets B m (other_bits plan) (B.after d two)))
      (walks-none (line_of_codes S ∷ co_line S ∷ []) two)
      (λ d. rw (write-bit C Z p l ds s d) (walks_more (triple (line_of_codes S) (co_line S) d) _ _ (i d))))

  -- ## The reset and the command

  -- A device as the command leaves it.
  abbrev pub Starts : M.Dev → Type 0
  Starts d = cond (Z.joins d) (Z.Own 0 d) (Z.Out d)

  pub takes-command : (ds : B.Devices) → Each (Takes M Starts command) (C.live (B.reset ds))
  takes-command ds = rw (C.reset-is ds) (each-restart Z (Takes M Starts command) Z.command-taken (C.live ds))

  take-bits : (P : M.Dev → Type 0) (bs : List Bool) (ds : B.Devices) → Each (Takes M P bs) (C.live ds)
      → ((slots B bs ds).lines ≡ bs) × Each P (C.live (slots B bs ds).devices)
  unfolding slots
  take-bits P [] ds h = (refl, h)
  take-bits P (b ∷ bs) ds h =
      let t = take-bit Z P b bs (C.live ds) h in
      let e : B.line b ds ≡ b = C.line-is b ds ∙ rw t.0 (and-true b) in
      let i = take-bits P bs (B.after b ds) (rw (C.after_is b ds, e) t.1) in
      (rw (e, i.0), i.1)

  started : (ds : B.Devices) → ((slots B command (B.reset ds)).lines ≡ command)
      × Each Starts (C.live (slots B command (B.reset ds)).devices)
  started ds = take-bits Starts command (B.reset ds) (takes-command ds)

  -- The line shows the command as the master sends it: everybody listens.
  pub command-shown : (ds : B.Devices) → (slots B command (B.reset ds)).lines ≡ command
  command-shown ds = (started ds).0

  -- Then each device that takes part is about to send its first bit, and every other is quiet.
  pub sits-started : (ds : B.Devices) → Each (Sits Z [] (Z.Own 0)) (C.live (slots B command (B.reset ds)).devices)
  sits-started ds = each-implies (λ d h. rw (agrees-nil, and-true) h) (C.live (slots B command (B.reset ds)).devices)
      (started ds).1

  -- ## Who takes part stays the same

  on-bus-started : (ds : B.Devices) → on_bus C Z (slots B command (B.reset ds)).devices ≡ on_bus C Z ds
  on-bus-started ds =
      slots-hold B (λ es. on_bus C Z es ≡ on_bus C Z ds) (λ x es e. on-bus-after C Z x es
      ∙ e) command (B.reset ds) (on-bus-reset C Z ds)

  pub on-bus-pass : (plan : Plan) (ds : B.Devices) → on_bus C Z (wire_pass B command n plan ds).devices ≡ on_bus C Z ds
  on-bus-pass plan ds =
      pass-holds B (λ es. on_bus C Z es ≡ on_bus C Z ds) (λ x es e. on-bus-after C Z x es
      ∙ e) (λ es e. on-bus-reset C Z es ∙ e) command n plan ds refl

  -- ## A pass

  walked : (plan : Plan) (ds : B.Devices) → Walks (pass n plan (on_bus C Z ds))
      (triplets B n plan (slots B command (B.reset ds)).devices)
  walked plan ds =
      simp (path-nil, on-bus-started) at (triplets-walk n plan [] (slots B command (B.reset ds)).devices (omega arith)
      (sits-started ds))

  pub pass-on-wire : (plan : Plan) (ds : B.Devices)
      → (wire_pass B command n plan ds).triples ≡ pass n plan (on_bus C Z ds)
  pass-on-wire plan ds = (walked plan ds).triples-are

  pub pass-lines : (plan : Plan) (ds : B.Devices) (ts : List Triple) → pass n plan (on_bus C Z ds) ≡ some ts
      → (wire_pass B command n plan ds).lines ≡ command ++ triples_shown ts
  pass-lines plan ds ts e = let i = (walked plan ds).lines_are ts e in rw (command-shown ds, i)

  -- Where nobody takes part, the first two reads show 1 and 1.
  pub nobody-reads : 0 < n → (ds : B.Devices) → on_bus C Z ds ≡ []
      → (B.line true (slots B command (B.reset ds)).devices ≡ true)
      × (B.line true (B.after true (slots B command (B.reset ds)).devices) ≡ true)
  unfolding all
  nobody-reads l ds e =
      let es = (slots B command (B.reset ds)).devices in
      let s = sits-started ds in
      let f : on_path [] (on_bus C Z es) ≡ [] = path-nil _ ∙ on-bus-started ds ∙ e in
      (read-bit C Z [] l es s ∙ ap line_of_codes f, read-co-bit C Z [] l es s ∙ ap co_line f)
