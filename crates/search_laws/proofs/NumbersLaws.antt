-- A listing of the codes' bits is a listing of the numbers: different numbers have different bits, and the order by
-- bits is the order of the numbers' lowest differing bit.
use Rattle.std.specs.Prelude.{◌≡◌, refl, ◌≢◌, Bool, true, false, ℕ, ◌^◌, ◌<◌, ◌≤◌, length, get_or}
use Rattle.std.proofs.Common.{sym, ap, ◌∙◌, arith, length-append}
use mathlib.Core.List.Permᴰ
use mathlib.Core.List.{List, [], ◌∷◌, map, Permᴰ}
use Rattle.std.proofs.lemmas.List.{length-map}
use Rattle.std.proofs.Math.ListN.{get_or-append}
use Rattle.std.proofs.Math.Seq.{get_or-append_seam}
use Rattle.basic_laws.specs.Bits.{bits_of, number_of}
use Rattle.basic_laws.specs.BitsLaws.{bits-length, number-bits, bits-number}
use Rattle.search_laws.specs.Codes.{Code, nobody, Sized, Before}
use Rattle.basic_laws.specs.Each.{Each, Pairs, Distinct}
use Rattle.basic_laws.specs.EachLaws.{each-perm}
use Rattle.search_laws.specs.Wire.{Bus, wire_search}
use Rattle.search_laws.proofs.DepartureLaws.{bit-of-code}
use Rattle.search_laws.specs.Searchers.{Model, Carries, Searchers}
use Rattle.search_laws.specs.Sits.{on_bus}
use Rattle.search_laws.specs.Complete.{Complete}
use Rattle.search_laws.proofs.CompleteLaws.{search-complete}
use Rattle.search_laws.specs.Numbers.{Sooner, Below, Numbered}

-- ## Different numbers have different bits

pub bits-differ : (n x y : ℕ) → x < 2 ^ n → y < 2 ^ n → x ≢ y → bits_of n x ≢ bits_of n y
bits-differ n x y a b d e = d (sym (number-bits n x a) ∙ ap number_of e ∙ number-bits n y b)

bits-absent : (n x : ℕ) (l : List ℕ) → x < 2 ^ n → Below n l → Each (λ y. x ≢ y) l
    → Each (λ c. bits_of n x ≢ c) (map (bits_of n) l)
bits-absent n x [] a b d = tt
bits-absent n x (y ∷ l) a b d = (bits-differ n x y a b.0 d.0, bits-absent n x l a b.1 d.1)

pub bits-distinct : (n : ℕ) (l : List ℕ) → Below n l → Distinct l → Distinct (map (bits_of n) l)
bits-distinct n [] b d = tt
bits-distinct n (x ∷ l) b d = (bits-absent n x l b.0 b.1 d.0, bits-distinct n l b.1 d.1)

pub bits-sized : (n : ℕ) (l : List ℕ) → Sized n (map (bits_of n) l)
bits-sized n [] = tt
bits-sized n (x ∷ l) = (bits-length n x, bits-sized n l)

-- ## There and back

numbers-bits : (n : ℕ) (l : List ℕ) → Below n l → map number_of (map (bits_of n) l) ≡ l
numbers-bits n [] b = refl
numbers-bits n (x ∷ l) b = let i = numbers-bits n l b.1 in rw (number-bits n x b.0, i)

code-back : (n : ℕ) (c : Code) → length c ≡ n → bits_of n (number_of c) ≡ c
code-back n c h = rw h at (bits-number c)

pub bits-numbers : (n : ℕ) (cs : List Code) → Sized n cs → map (bits_of n) (map number_of cs) ≡ cs
bits-numbers n [] h = refl
bits-numbers n (c ∷ cs) h = let i = bits-numbers n cs h.1 in rw (code-back n c h.0, i)

-- ## The order

module _ (n : ℕ) (c d : Code) (h : length c ≡ n) (k : length d ≡ n) (b : Before c d) where
  place-lt : length b.common < n
  place-lt = omega (arith, simp length-append at (ap length b.is-left))

  before-sooner : Sooner (number_of c) (number_of d)
  before-sooner =
      let p = b.common in
      let l = place-lt in
      record {
        place = length p;
        same-below = λ i f.
            bit-of-code c i (omega arith) ∙ ap (λ (t : Code). get_or t i false) b.is-left
            ∙ get_or-append p (false ∷ b.left) false i f
            ∙ sym (bit-of-code d i (omega arith) ∙ ap (λ (t : Code). get_or t i false) b.is_right
            ∙ get_or-append p (true ∷ b.right) false i f);
        zero-there = bit-of-code c (length p) (omega arith) ∙ ap (λ (t : Code). get_or t (length p) false) b.is-left
            ∙ get_or-append_seam p false b.left false;
        one-there = bit-of-code d (length p) (omega arith) ∙ ap (λ (t : Code). get_or t (length p) false) b.is_right
            ∙ get_or-append_seam p true b.right false;
      }

each-sooner : (n : ℕ) (c : Code) (cs : List Code) → length c ≡ n → Sized n cs → Each (Before c) cs
    → Each (Sooner (number_of c)) (map number_of cs)
each-sooner n c [] h s b = tt
each-sooner n c (d ∷ cs) h s b = (before-sooner n c d h s.0 b.0, each-sooner n c cs h s.1 b.1)

pairs-sooner : (n : ℕ) (cs : List Code) → Sized n cs → Pairs Before cs → Pairs Sooner (map number_of cs)
pairs-sooner n [] s b = tt
pairs-sooner n (c ∷ cs) s b = (each-sooner n c cs s.0 s.1 b.0, pairs-sooner n cs s.1 b.1)

numbered : (n : ℕ) (ns : List ℕ) (cs : List Code) → Below n ns → Permᴰ (map (bits_of n) ns) cs → Pairs Before cs
    → Numbered n ns cs
numbered n ns cs b p o =
    let s = each-perm (λ c. length c ≡ n) p (bits-sized n ns) in
    record {
      all_listed = rw (numbers-bits n ns b) at (Permᴰ.map number_of p);
      ordered = pairs-sooner n cs s o;
      codes-are = bits-numbers n cs s;
    }

somebody : (n : ℕ) (l : List ℕ) → 0 < length l → nobody (map (bits_of n) l) ≡ false
somebody n [] h = absurd (omega arith)
somebody n (x ∷ l) h = refl

-- The search, where the codes of those that take part are given as numbers.
module _ {B : Bus} {M : Model} (C : Carries B M) {command : List Bool} {n : ℕ} (Z : Searchers M command n) (fuel : ℕ)
    (ds : B.Devices)
    (ns : List ℕ) (e : on_bus C Z ds ≡ map (bits_of n) ns) (b : Below n ns) (d : Distinct ns) (h : 0 < length ns)
    (f : length ns ≤ fuel)
  where
    pub numbers-complete : Complete B command n (map (bits_of n) ns) ds (wire_search B command fuel n ds)
    numbers-complete =
        rw e at
        (search-complete C Z fuel ds (rw e (bits-sized n ns)) (rw e (bits-distinct n ns b d)) (rw e (somebody n ns h))
        (rw (e, length-map ns (bits_of n)) f))

    pub numbers-listed : Numbered n ns (wire_search B command fuel n ds).codes
    numbers-listed = numbered n ns (wire_search B command fuel n ds).codes b numbers-complete.all_listed
        numbers-complete.ordered
