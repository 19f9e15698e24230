-- What a master's pass shows and leaves is what the slots give that it has issued, on any bus at all: a pass that has
-- found a code is a run of that code's slots, `pass-issued`; and the run of two runs is one after the other,
-- `slots-append`.
use Rattle.std.specs.Prelude.{◌≡◌, Bool}
use Rattle.std.proofs.Math.Path.{refl, ap}
use Rattle.std.proofs.Common.{◌∙◌, arith}
use Rattle.std.proofs.Math.Bool.{true}
use Rattle.std.proofs.Math.Option.{Option, none, some, map}
use mathlib.Core.List.{List, [], ◌∷◌, ◌++◌}
use Prim.Native.Nat.{ℕ, zero, suc, ◌+◌, ◌*◌}
use Rattle.std.proofs.Math.ListN.{length, length-append}
use Rattle.search_laws.specs.Codes.{Code, first, other_bits, Sized}
use Rattle.basic_laws.specs.Each.{Each}
use Rattle.search_laws.specs.Pass.{Triple, triple, Plan, choice, found}
use Rattle.search_laws.specs.PassLaws.{on_some_lem, never}
use Rattle.search_laws.specs.Wire.{Bus, SlotsRun, run, Pass, passed, with_triple, triple_offers, pass_offers, slots}
use Rattle.search_laws.specs.Wire.{passes, triplets, wire_pass}

-- A list that was made longer at its front.
pub record Longer {A : Type 0} (x : A) (o : Option (List A)) (l : List A) : Type 0 where
  pub others : List A
  pub others-is : o ≡ some others
  pub is : l ≡ x ∷ others

pub longer-option : {A : Type 0} (x : A) (o : Option (List A)) (l : List A) → map (λ t. x ∷ t) o ≡ some l
    → Longer x o l
longer-option x none l e = absurd (never e)
longer-option x (some t) l e = record { others = t; others-is = refl; is = cc }

triple-offers : (c : Code) → length (triple_offers c) ≡ 3 * length c
unfolding triple_offers
triple-offers [] = refl
triple-offers (b ∷ c) = let i = triple-offers c in omega arith

module _ (B : Bus) where
  pub slots-append : (xs ys : List Bool) (ds : B.Devices)
      → slots B (xs ++ ys) ds ≡ run ((slots B xs ds).lines
      ++ (slots B ys (slots B xs ds).devices).lines) (slots B ys (slots B xs ds).devices).devices
  unfolding slots
  slots-append [] ys ds = refl
  slots-append (x ∷ xs) ys ds = let i = slots-append xs ys (B.after x ds) in rw i

  -- The run of a pass.
  abbrev pub run_of : Pass B.Devices → SlotsRun B.Devices
  run_of p = run p.lines p.devices

  triplets-issued : (n : ℕ) (plan : Plan) (ds : B.Devices) (ts : List Triple) → (triplets B n plan ds).triples ≡ some ts
      → run_of (triplets B n plan ds) ≡ slots B (triple_offers (found ts)) ds
  unfolding triplets triple_offers found slots
  triplets-issued zero plan ds ts e = let f : found ts ≡ [] = cc in rw f
  triplets-issued (suc n) plan ds ts e =
      let once = B.after true ds in
      let twice = B.after true once in
      let a = B.line true ds in
      let b = B.line true once in
      let i : (d : Bool) (us : List Triple) → (triplets B n (other_bits plan) (B.after d twice)).triples ≡ some us
      → run_of (triplets B n (other_bits plan) (B.after d twice))
      ≡ slots B (triple_offers (found us)) (B.after d twice) =
      λ d. triplets-issued n (other_bits plan) (B.after d twice) in
      on_some_lem (λ p. p.triples ≡ some ts → run_of p
      ≡ slots B (triple_offers (found ts)) ds) (choice a b (first plan)) (passed none (a ∷ b ∷ []) twice)
      (λ d. with_triple (triple a b d) (B.line d twice) (triplets B n (other_bits plan) (B.after d twice)))
      (λ z. absurd (never z))
      (λ d z.
      let k = longer-option (triple a b d) _ ts z in
      let r = i d k.others k.others-is in
      rw (k.is, ← r)) e

  -- A pass that has found a code.
  pub pass-issued : (command : List Bool) (n : ℕ) (plan : Plan) (ds : B.Devices) (ts : List Triple)
      → (wire_pass B command n plan ds).triples ≡ some ts
      → run_of (wire_pass B command n plan ds) ≡ slots B (pass_offers command (found ts)) (B.reset ds)
  pass-issued command n plan ds ts e =
      let s = slots B command (B.reset ds) in
      let i = triplets-issued n plan s.devices ts e in
      rw (slots-append command (triple_offers (found ts)) (B.reset ds), ← i)

  -- ## How many slots

  pub slots_length : (xs : List Bool) (ds : B.Devices) → length (slots B xs ds).lines ≡ length xs
  unfolding slots
  slots_length [] ds = refl
  slots_length (x ∷ xs) ds = ap suc (slots_length xs (B.after x ds))

  -- The passes of codes of n bits: one for each, of the command's slots and three for each bit.
  pub passes_count : (command : List Bool) (cs : List Code) (ds : B.Devices)
      → length (passes B command cs ds).lines ≡ length cs
  unfolding passes
  passes_count command [] ds = refl
  passes_count command (c ∷ cs) ds = ap suc (passes_count command cs _)

  pub passes-slots : (command : List Bool) (n : ℕ) (cs : List Code) (ds : B.Devices) → Sized n cs
      → Each (λ l. length l ≡ length command + 3 * n) (passes B command cs ds).lines
  unfolding passes
  passes-slots command n [] ds h = tt
  passes-slots command n (c ∷ cs) ds h =
      let t = triple-offers c in
      let e : length (pass_offers command c) ≡ length command + 3 * n = simp length-append (omega arith) in
      (slots_length (pass_offers command c) _ ∙ e, passes-slots command n cs _ h.1)
