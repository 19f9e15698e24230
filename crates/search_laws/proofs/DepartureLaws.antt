-- The plan that a program keeps as a number and a place is the plan of the passes.
use Rattle.std.specs.Prelude.{◌≡◌, refl, Bool, true, false, List, [], ◌∷◌, ◌++◌, ℕ, zero, suc, ◌+◌, ◌^◌, ◌<◌, ◌≤◌, ltb, eqb, length, get_or, take}
use Rattle.std.proofs.Common.{sym, ap, ◌∙◌, arith, lt-ltb, le-ltb, ltb-true}
use Rattle.std.proofs.Math.Option.{Option, none, some, map}
use Rattle.std.proofs.Math.Nat.{zero-div}
use Rattle.std.proofs.Math.Dec.{leb-zero, leb-suc-zero, leb-suc-suc, eqb-suc-zero, eqb-suc-suc}
use Rattle.std.specs.Prelude.{if◌then◌else◌}
use Rattle.basic_laws.specs.Bits.{bit_at, number_of}
use Rattle.basic_laws.specs.BitsLaws.{bits-number, bits_at}
use Rattle.search_laws.specs.Codes.{Code}
use Rattle.search_laws.specs.Pass.{Triple, on_some, found, took_zero, departed, next}
use Rattle.search_laws.specs.Departure.{takes, last_from, plan_of, last_of}

-- ## What a plan takes

pub bit-of-code : (c : Code) (j : ℕ) → j < length c → bit_at (number_of c) j ≡ get_or c j false
bit-of-code c j h = sym (bits_at (length c) (number_of c) j h) ∙ ap (λ (l : List Bool). get_or l j false) (bits-number c)

plan-bit : (c : Code) (D j : ℕ) → D ≤ length c
    → get_or (take D c ++ true ∷ []) j false ≡ (if ltb j D then get_or c j false else eqb j D)
plan-bit c zero zero h = refl
plan-bit c zero (suc j) h = simp (leb-suc-zero, eqb-suc-zero)
plan-bit [] (suc D) j h = absurd (omega arith)
plan-bit (x ∷ c) (suc D) zero h = simp (leb-suc-suc 0 D, leb-zero)
plan-bit (x ∷ c) (suc D) (suc j) h = let i = plan-bit c D j (omega arith) in simp (leb-suc-suc, eqb-suc-suc, i)

pub takes-plan : (c : Code) (D j : ℕ) → D < length c → takes (number_of c) D j ≡ get_or (take D c ++ true ∷ []) j false
takes-plan c D j h = by-test (ltb j D) refl ∙ sym (plan-bit c D j (omega arith))
  where
    by-test : (t : Bool) → ltb j D ≡ t → takes (number_of c) D j ≡ (if ltb j D then get_or c j false else eqb j D)
    by-test true e = let l = ltb-true j D e in rw (e, bit-of-code c j (omega arith))
    by-test false e = rw e

-- The first pass.
pub takes_first : (n j : ℕ) → j < n → takes 0 n j ≡ false
takes_first n j h = rw (lt-ltb j n h, zero-div (2 ^ j))

last-from : (j D : ℕ) (ts : List Triple) → last_from j D ts ≡ on_some (last_of ts) D (λ k. j + k)
unfolding last_from last_of
last-from j D [] = refl
last-from j D (t ∷ ts) = last-from (suc j) (if took_zero t then j else D) ts ∙ go (last_of ts) (took_zero t)
  where
    go : (o : Option ℕ) (z : Bool)
        → on_some o (if z then j else D) (λ k. suc j + k)
        ≡ on_some (on_some o (if z then some 0 else none) (λ k. some (suc k))) D (λ k. j + k)
    go none true = omega arith
    go none false = refl
    go (some k) z = omega arith

last-lt : (ts : List Triple) (k : ℕ) → last_of ts ≡ some k → k < length ts
unfolding last_of
last-lt [] k e = let z : ◌≡◌ {A = ℕ} 0 1 = cc in absurd (omega arith)
last-lt (t ∷ ts) k e = go (last_of ts) (took_zero t) (λ i f. last-lt ts i f) e
  where
    go : (o : Option ℕ) (z : Bool) → ((i : ℕ) → o ≡ some i → i < length ts)
        → on_some o (if z then some 0 else none) (λ i. some (suc i)) ≡ some k
        → k < suc (length ts)
    go none true h f = let g : k ≡ 0 = cc in omega arith
    go none false h f = let z : ◌≡◌ {A = ℕ} 0 1 = cc in absurd (omega arith)
    go (some i) z h f = let g : k ≡ suc i = cc in let l = h i refl in omega arith

next_last : (ts : List Triple) → next ts ≡ map (λ D. take D (found ts) ++ true ∷ []) (last_of ts)
unfolding next found last_of
next_last [] = refl
next_last (t ∷ ts) = let i = next_last ts in rw i (go (last_of ts))
  where
    here : (z : Bool) → (if z then some (true ∷ []) else none)
        ≡ map (λ D. take D (t.sent ∷ found ts) ++ true ∷ []) (if z then some 0 else none)
    here true = refl
    here false = refl

    go : (o : Option ℕ) → departed t (map (λ D. take D (found ts) ++ true ∷ []) o)
        ≡ map (λ D. take D (t.sent ∷ found ts)
        ++ true ∷ []) (on_some o (if took_zero t then some 0 else none) (λ k. some (suc k)))
    go none = here (took_zero t)
    go (some k) = refl

pub next-plan : (ts : List Triple) → next ts ≡ plan_of (length ts) (found ts) (last_from 0 (length ts) ts)
next-plan ts = next_last ts ∙ rw (last-from 0 (length ts) ts) (go (last_of ts) (λ k e. last-lt ts k e))
  where
    go : (o : Option ℕ) → ((k : ℕ) → o ≡ some k → k < length ts)
        → map (λ D. take D (found ts) ++ true ∷ []) o
        ≡ plan_of (length ts) (found ts) (on_some o (length ts) (λ k. 0 + k))
    go none h = rw (le-ltb (length ts) (length ts) (omega arith))
    go (some k) h =
        let e : 0 + k ≡ k = omega arith in
        rw (e, lt-ltb k (length ts) (h k refl))
