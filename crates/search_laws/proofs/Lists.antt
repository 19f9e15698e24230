-- The passes of a search, each with the plan that the one before it leaves, go through the listing and end with it:
-- `lists`.
--     Lists n S plan cs      the passes over S from a plan on find cs, one code each, and the last leaves no plan
-- By induction on the codes' length: the passes over those that send 0 first, then the departure at this bit, then
-- those that send 1.
use Rattle.std.specs.Prelude.{◌≡◌, Bool, ◌&&◌, ℕ, zero, suc}
use Rattle.std.proofs.Math.Path.{refl}
use Rattle.std.proofs.Common.{◌∙◌, true≢false}
use Rattle.std.proofs.Math.Bool.{true, false, and-false}
use Rattle.std.proofs.Math.Option.{Option, none, some}
use mathlib.Core.List.{List, [], ◌∷◌, ◌++◌, map, append-nil}
use Rattle.basic_laws.specs.Fold.{all}
use Rattle.search_laws.specs.Codes.{Code, line_of_codes, co_line, follow, nobody}
use Rattle.search_laws.specs.Pass.{triple, Plan, choice, pass, found, departed, next}
use Rattle.search_laws.specs.Listing.{in_order}
use Rattle.search_laws.proofs.ListingLaws.{order-nobody}
use Rattle.search_laws.specs.Lists.{Lists, end, more}

-- The line shows 1 in the first read where nobody sends 0, and in the second where nobody sends 1.
line-is : (S : List Code) → line_of_codes S ≡ nobody (follow false S)
unfolding all follow
line-is [] = refl
line-is ([] ∷ S) = refl
line-is ((true ∷ c) ∷ S) = line-is S
line-is ((false ∷ c) ∷ S) = refl

co-line-is : (S : List Code) → co_line S ≡ nobody (follow true S)
unfolding all follow
co-line-is [] = refl
co-line-is ([] ∷ S) = co-line-is S
co-line-is ((true ∷ c) ∷ S) = refl
co-line-is ((false ∷ c) ∷ S) = co-line-is S

module _ (n : ℕ) (S : List Code) (x y : Bool) (A : line_of_codes S ≡ x) (B : co_line S ≡ y) where
  -- What is listed of those that go on after b is listed of all, with b in front; then what a departure at this bit
  -- lists.
  lift : (b : Bool) {o : Option Plan} {cs ds : List Code} → choice x y b ≡ some b
      → Lists (suc n) S (departed (triple x y b) none) ds
      → Lists n (follow b S) o cs → Lists (suc n) S (departed (triple x y b) o) (map (◌∷◌ b) cs ++ ds)
  unfolding pass found next
  lift b e d end = d
  lift b e d (more plan ts f r) = more (b ∷ plan) (triple x y b ∷ ts) (simp (A, B, e, f)) (lift b e d r)

  -- A pass with the empty plan goes as one whose plan begins with the bit that it takes first.
  start : (b : Bool) {cs : List Code} → choice x y false ≡ some b → choice x y b ≡ some b
      → Lists (suc n) S (some (b ∷ [])) cs → Lists (suc n) S (some []) cs
  unfolding pass
  start b e f (more plan ts g r) = more [] ts (simp (A, B, e) (simp (A, B, f) at g)) r

module _ (n : ℕ) (S : List Code) (i : (b : Bool) → nobody (follow b S) ≡ false
    → Lists n (follow b S) (some []) (in_order n (follow b S))) where
  split : (x y : Bool) → nobody (follow false S) ≡ x → nobody (follow true S) ≡ y → (x && y) ≡ false
      → Lists (suc n) S (some []) (in_order (suc n) S)
  unfolding in_order
  split false false p q h =
      let A = line-is S ∙ p in
      let B = co-line-is S ∙ q in
      let ones = lift n S false false A B true refl end (i true q) in
      simp append-nil at (start n S false false A B false refl refl
      (lift n S false false A B false refl ones (i false p)))
  split false true p q h =
      let A = line-is S ∙ p in
      let B = co-line-is S ∙ q in
      simp (order-nobody n (follow true S) q) (start n S false true A B false refl refl
      (lift n S false true A B false refl end (i false p)))
  split true false p q h =
      let A = line-is S ∙ p in
      let B = co-line-is S ∙ q in
      simp (order-nobody n (follow false S) p)
      (simp append-nil at (start n S true false A B true refl refl (lift n S true false A B true refl end (i true q))))
  split true true p q h = absurd (true≢false h)

-- Somebody sends 0 or somebody sends 1.
somebody : (S : List Code) → nobody S ≡ false → (nobody (follow false S) && nobody (follow true S)) ≡ false
unfolding follow
somebody [] h = h
somebody ([] ∷ S) h = refl
somebody ((false ∷ c) ∷ S) h = refl
somebody ((true ∷ c) ∷ S) h = and-false (nobody (follow false S))

pub lists : (n : ℕ) (S : List Code) → nobody S ≡ false → Lists n S (some []) (in_order n S)
unfolding pass found next in_order
lists zero [] h = absurd (true≢false h)
lists zero (c ∷ S) h = more [] [] refl end
lists (suc n) S h = split n S (λ b m. lists n (follow b S) m) _ _ refl refl (somebody S h)
