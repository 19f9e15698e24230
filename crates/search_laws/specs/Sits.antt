-- Devices in the course of a pass: once the path p has been sent, a device that takes part and whose code begins with p
-- is about to send the bit after p, and every other is quiet. The three slots of a bit show the line, its complement
-- and the master's bit, and take that from p to p with this bit.
--     Sits Z p P d      P holds of d where it takes part and its code begins with p; else d is quiet
--     on_bus C Z ds      the codes of those on the bus that take part
use Rattle.std.specs.Prelude.{◌≡◌, Bool, not, ◌&&◌, cond, ℕ, suc, ◌<◌, length, get_or}
use Rattle.std.proofs.Math.Path.{refl}
use Rattle.std.proofs.Common.{sym, ◌∙◌}
use Rattle.std.proofs.Math.Bool.{true, false, and-true}
use Rattle.std.specs.Bool.{beq}
use mathlib.Core.List.{List, [], ◌∷◌, ◌++◌, map}
use Rattle.std.specs.Prelude.{if◌then◌else◌}
use Rattle.basic_laws.specs.ChoiceLaws.{if-and}
use Rattle.basic_laws.specs.Fold.{all}
use Rattle.search_laws.specs.Codes.{Code, line_of_codes, co_line}
use Rattle.basic_laws.specs.Each.{Each}
use Rattle.search_laws.specs.Paths.{agrees, on_path, agrees-snoc, all-if, line-path, co-line-path}
use Rattle.search_laws.specs.Wire.{Bus}
use Rattle.search_laws.specs.Searchers.{Model, Carries, Takes, Searchers, participants}

-- ## Lists of devices

module _ {M : Model} {command : List Bool} {n : ℕ} (Z : Searchers M command n) where
  -- Of a device that takes part and whose code begins with p, P holds; any other device is quiet.
  abbrev pub Sits : List Bool → (M.Dev → Type 0) → M.Dev → Type 0
  Sits p P d = cond (Z.joins d && agrees p (Z.code d)) (P d) (Z.Out d)

  sit-offer : (p : List Bool) (P : M.Dev → Type 0) (f : Code → Bool) (d : M.Dev) → (P d → M.offer d ≡ f (Z.code d))
      → Sits p P d
      → M.offer d ≡ (if Z.joins d && agrees p (Z.code d) then f (Z.code d) else true)
  sit-offer p P f d h s = go (Z.joins d && agrees p (Z.code d)) s
    where
      go : (b : Bool) → cond b (P d) (Z.Out d) → M.offer d ≡ (if b then f (Z.code d) else true)
      go true t = h t
      go false t = Z.out-offer d t

  offers-sit : (p : List Bool) (P : M.Dev → Type 0) (f : Code → Bool)
      → ((d : M.Dev) → P d → M.offer d ≡ f (Z.code d))
      → (ds : List M.Dev) → Each (Sits p P) ds
      → all M.offer ds ≡ all (λ c. if agrees p c then f c else true) (participants Z ds)
  unfolding all participants
  offers-sit p P f h [] s = refl
  offers-sit p P f h (d ∷ ds) s =
      let i = offers-sit p P f h ds s.1 in
      let e = sit-offer p P f d (h d) s.0 in
      rw (e, i, all-if, if-and)

  each-hear : (P Q : M.Dev → Type 0) (x : Bool) → ((d : M.Dev) → P d → Q (M.hear x d)) → (ds : List M.Dev)
      → Each P ds
      → Each Q (map (M.hear x) ds)
  each-hear P Q x h [] s = tt
  each-hear P Q x h (d ∷ ds) s = (h d s.0, each-hear P Q x h ds s.1)

  sits-hear : (p : List Bool) (P Q : M.Dev → Type 0) (x : Bool) → ((d : M.Dev) → P d → Q (M.hear x d)) → (d : M.Dev)
      → Sits p P d
      → Sits p Q (M.hear x d)
  sits-hear p P Q x h d s = rw (Z.hear-code, Z.hear-joins) (go (Z.joins d && agrees p (Z.code d)) s)
    where
      go : (b : Bool) → cond b (P d) (Z.Out d) → cond b (Q (M.hear x d)) (Z.Out (M.hear x d))
      go true t = h d t
      go false t = Z.out-hear x d t

  sits-way : (p : List Bool) → length p < n → (x : Bool) (d : M.Dev) → Sits p (Z.Way (length p)) d
      → Sits (p ++ x ∷ []) (Z.Own (suc (length p))) (M.hear x d)
  sits-way p l x d s = rw (Z.hear-code, Z.hear-joins, agrees-snoc) (go (Z.joins d) (agrees p (Z.code d)) s)
    where
      go : (a b : Bool) → cond (a && b) (Z.Way (length p) d) (Z.Out d)
          → cond (a && (b && beq (get_or (Z.code d) (length p) false) x)) (Z.Own (suc (length p)) (M.hear x d))
          (Z.Out (M.hear x d))
      go true true t = Z.way-hear (length p) l x d t
      go true false t = Z.out-hear x d t
      go false b t = Z.out-hear x d t

  participants-hear : (x : Bool) (ds : List M.Dev) → participants Z (map (M.hear x) ds) ≡ participants Z ds
  unfolding participants
  participants-hear x [] = refl
  participants-hear x (d ∷ ds) = let i = participants-hear x ds in rw (Z.hear-code, Z.hear-joins, i)

  participants-restart : (ds : List M.Dev) → participants Z (map M.restart ds) ≡ participants Z ds
  unfolding participants
  participants-restart [] = refl
  participants-restart (d ∷ ds) = let i = participants-restart ds in rw (Z.restart-code, Z.restart-joins, i)

  pub each-restart : (P : M.Dev → Type 0) → ((d : M.Dev) → P (M.restart d)) → (ds : List M.Dev)
      → Each P (map M.restart ds)
  each-restart P h [] = tt
  each-restart P h (d ∷ ds) = (h d, each-restart P h ds)

  pub take-bit : (P : M.Dev → Type 0) (b : Bool) (bs : List Bool) (ds : List M.Dev) → Each (Takes M P (b ∷ bs)) ds
      → (all M.offer ds ≡ true) × Each (Takes M P bs) (map (M.hear b) ds)
  unfolding all
  take-bit P b bs [] h = (refl, tt)
  take-bit P b bs (d ∷ ds) h = let i = take-bit P b bs ds h.1 in (rw (h.0.0, i.0), (h.0.1, i.1))

-- ## A bus of these devices

module _ {B : Bus} {M : Model} (C : Carries B M) {command : List Bool} {n : ℕ} (Z : Searchers M command n) where
  abbrev pub on_bus : B.Devices → List Code
  on_bus ds = participants Z (C.live ds)

  pub on-bus-after : (x : Bool) (ds : B.Devices) → on_bus (B.after x ds) ≡ on_bus ds
  on-bus-after x ds = rw (C.after_is x ds) (participants-hear Z (B.line x ds) (C.live ds))

  pub on-bus-reset : (ds : B.Devices) → on_bus (B.reset ds) ≡ on_bus ds
  on-bus-reset ds = rw (C.reset-is ds) (participants-restart Z (C.live ds))

  -- Where P holds of each device, Q holds of each after a slot.
  pub each_after : (P Q : M.Dev → Type 0) (x : Bool) (ds : B.Devices)
      → ((d : M.Dev) → P d → Q (M.hear (B.line x ds) d)) → Each P (C.live ds)
      → Each Q (C.live (B.after x ds))
  each_after P Q x ds h s = rw (C.after_is x ds) (each-hear Z P Q (B.line x ds) h (C.live ds) s)

  -- The three slots of a bit, for devices that the path p has come to.
  module _ (p : List Bool) (l : length p < n) (ds : B.Devices)
      (s : Each (Sits Z p (Z.Own (length p))) (C.live ds)) where
    abbrev pub once : B.Devices
    once = B.after true ds

    abbrev pub twice : B.Devices
    twice = B.after true once

    pub read-bit : B.line true ds ≡ line_of_codes (on_path p (on_bus ds))
    read-bit =
        C.line-is true ds
        ∙ offers-sit Z p (Z.Own (length p)) (λ c. get_or c (length p) false) (Z.own-offer (length p) l) (C.live ds) s
        ∙ sym (line-path p (on_bus ds))

    pub sits-co : Each (Sits Z p (Z.Co (length p))) (C.live once)
    sits-co = each_after _ _ true ds (sits-hear Z p (Z.Own (length p)) (Z.Co (length p)) (B.line true ds)
        (Z.own-hear (length p) l (B.line true ds))) s

    pub read-co-bit : B.line true once ≡ co_line (on_path p (on_bus ds))
    read-co-bit =
        C.line-is true once
        ∙ offers-sit Z p (Z.Co (length p)) (λ c. not (get_or c (length p) false)) (Z.co-offer (length p) l)
        (C.live once) sits-co
        ∙ simp (on-bus-after, co-line-path)

    pub sits-way-next : Each (Sits Z p (Z.Way (length p))) (C.live twice)
    sits-way-next =
        each_after _ _ true once (sits-hear Z p (Z.Co (length p)) (Z.Way (length p)) (B.line true once)
        (Z.co-hear (length p) l (B.line true once)))
        sits-co

    all_quiet : (S : List Code) → all (λ c. if agrees p c then true else true) S ≡ true
    unfolding all
    all_quiet [] = refl
    all_quiet (c ∷ S) = go (agrees p c) ∙ all_quiet S
      where
        go : (b : Bool) → ((if b then true else true) && all (λ c. if agrees p c then true else true) S)
            ≡ all (λ c. if agrees p c then true else true) S
        go true = refl
        go false = refl

    pub write-bit : (d : Bool) → B.line d twice ≡ d
    write-bit d =
        let e = offers-sit Z p (Z.Way (length p)) (λ c. true) (Z.way-offer (length p) l) (C.live twice)
        sits-way-next in
        C.line-is d twice ∙ rw (e, all_quiet) (and-true d)

    pub sits_on : (d : Bool) → Each (Sits Z (p ++ d ∷ []) (Z.Own (suc (length p)))) (C.live (B.after d twice))
    sits_on d = each_after _ _ d twice (rw (write-bit d) (sits-way Z p l d)) sits-way-next
