-- The three steps, as loops make them, and that they alter no line of digits.
--     unspaced-take, unreturned-take         the last two steps take characters from the end alone
--     digits-unaltered                       a line of hexadecimal digits is as it was
--     unaltered-same                         a line that none of the three altered is as it was
use Rattle.std.specs.Prelude.{◌≡◌, ℕ, suc, ◌+◌, ◌-◌, ◌<◌, ◌≤◌, Bool, true, false, ◌&&◌, List, [], ◌∷◌, ◌++◌, map, length, take, ◌==◌, ◌≢◌, nat_eq, nat_le, slice_index, slice_index_or, refl}
use Rattle.std.proofs.Common.{sym, ◌∙◌, add-one, eq-eqb, ne_eqb, eqb-true, leb-true, leb-false, le-leb, ltb-true, lit<, take-suc, take_all, length-take-le}
use Rattle.std.proofs.Math.Path.{ap}
use Rattle.std.proofs.Math.Bool.{and-false}
use native.Mathlib.Omega.{arith}
use Rattle.std.proofs.lemmas.Bool.{eqb-false, lt-leb}
use Rattle.std.specs.Prelude.{if◌then◌else◌}
use Rattle.basic_laws.specs.ChoiceLaws.{and_left, and_right}
use Rattle.basic_laws.specs.Fold.{all}
use Rattle.basic_laws.specs.FoldLaws.{all_append, all-at}
use Rattle.basic_laws.specs.Same.{same}
use Rattle.basic_laws.specs.SameLaws.{same-equal, same-itself, same-lengths}
use Rattle.text.specs.Digits.{is_digit, spells, value_of}
use Rattle.text.specs.DigitsLaws.{value-below, value-above}
use Rattle.text.specs.Lines.{carriage_return, space}
use Rattle.mending.specs.Mending.{raised, unreturned, is_space, unspaced, mended_chars, step_mark, altered_by}

-- ## Spaces from the end

snoc-space : (l : List ℕ) (x : ℕ) → is_space x ≡ true → unspaced (l ++ (x ∷ [])) ≡ unspaced l
unfolding unspaced all
snoc-space [] x e = rw e
snoc-space (c ∷ l) x e =
    let t : all is_space (l ++ (x ∷ [])) ≡ all is_space l =
    all_append is_space l (x ∷ []) ∙ rw e (and-true (all is_space l)) in
    rw (t, snoc-space l x e)
  where
    and-true : (t : Bool) → (t && true) ≡ t
    and-true true = refl
    and-true false = refl

snoc-other : (l : List ℕ) (x : ℕ) → is_space x ≡ false → unspaced (l ++ (x ∷ [])) ≡ l ++ (x ∷ [])
unfolding unspaced all
snoc-other [] x e = rw e
snoc-other (c ∷ l) x e =
    let t : all is_space (l ++ (x ∷ [])) ≡ false = all_append is_space l (x ∷ []) ∙ rw e (and-false (all is_space l)) in
    rw (t, and-false (is_space c), snoc-other l x e)

-- the last of some characters is a space, or not
module _ (l : List ℕ) (i : ℕ) (h : i < length l) where
  last_taken : take (i + 1) l ≡ take i l ++ (slice_index l i ∷ [])
  last_taken = rw (add-one i) (take-suc l i 0 h)

  pub space-off : slice_index_or l i 0 ≡ space → unspaced (take (i + 1) l) ≡ unspaced (take i l)
  space-off e = rw last_taken (snoc-space (take i l) (slice_index l i) (eq-eqb (slice_index l i) space e))

  pub space-none : (slice_index l i ≢ space) → unspaced (take (i + 1) l) ≡ take (i + 1) l
  space-none e = rw last_taken (snoc-other (take i l) (slice_index l i) (ne_eqb (slice_index l i) space e))

pub unspaced-take : (cs : List ℕ) → (length (unspaced cs) ≤ length cs) × (unspaced cs ≡ take (length (unspaced cs)) cs)
unfolding unspaced
unspaced-take [] = (omega arith, refl)
unspaced-take (c ∷ cs) = by-test (all is_space (c ∷ cs)) (unspaced-take cs)
  where
    by-test : (t : Bool) → (length (unspaced cs) ≤ length cs) × (unspaced cs ≡ take (length (unspaced cs)) cs) →
        let x = if t then [] else c ∷ unspaced cs in (length x ≤ suc (length cs)) × (x ≡ take (length x) (c ∷ cs))
    by-test true i = (omega arith, refl)
    by-test false i = let l = i.0 in (omega arith, ap (λ (x : List ℕ). c ∷ x) i.1)

-- ## The return

pub unreturned-take : (cs : List ℕ) → (length (unreturned cs) ≤ length cs)
    × (unreturned cs ≡ take (length (unreturned cs)) cs)
unreturned-take cs = by-test (slice_index cs (length cs - 1) == carriage_return)
  where
    by-test : (t : Bool) → let x = if t then take (length cs - 1) cs else cs in
        (length x ≤ length cs) × (x ≡ take (length x) cs)
    by-test true = let l = length-take-le (length cs - 1) cs (omega arith) in (omega arith, rw l)
    by-test false = (omega arith, sym (take_all (length cs) cs (omega arith)))

-- ## Which step altered the line

pub altered-shorter : (step : ℕ) (before after : List ℕ) → length after ≤ length before
    → after ≡ take (length after) before
    → step_mark step before after ≡ (if nat_eq (length after) (length before) then 0 else step)
altered-shorter step before after fewer front = by-test (length after == length before) refl
  where
    by-test : (t : Bool) → (length after == length before) ≡ t → step_mark step before after ≡ (if t then 0 else step)
    by-test true e =
        let size = eqb-true (length after) (length before) e in
        let one : after ≡ before = front ∙ take_all (length after) before (omega arith) in
        rw (one, same-itself before)
    by-test false e =
        let size = eqb-false (length after) (length before) e in
        rw (same-lengths before after (λ k. size (sym k)))

altered-none : (step : ℕ) (before after : List ℕ) → 0 < step → step_mark step before after ≡ 0 → after ≡ before
altered-none step before after some e = by-test (same before after) refl e
  where
    by-test : (t : Bool) → same before after ≡ t → (if t then 0 else step) ≡ 0 → after ≡ before
    by-test true s k = sym (same-equal before after s)
    by-test false s k = absurd (omega arith)

pub unaltered-same : (cs : List ℕ) → altered_by cs ≡ 0 → mended_chars cs ≡ cs
unaltered-same cs e =
    let r = map raised cs in
    let one : step_mark 1 cs r ≡ 0 = omega arith in
    let two : step_mark 2 r (unreturned r) ≡ 0 = omega arith in
    let four : step_mark 4 (unreturned r) (mended_chars cs) ≡ 0 = omega arith in
    altered-none 4 (unreturned r) (mended_chars cs) (omega arith) four
    ∙ altered-none 2 r (unreturned r) (omega arith) two ∙ altered-none 1 cs r (omega arith) one

-- ## A line of digits

-- a digit is no letter from a on, no return and no space
module _ (c : ℕ) (d : is_digit 16 c ≡ true) where
  digit-between : (0x30 ≤ c) × (c ≤ 0x46)
  digit-between = (least (nat_le 0x30 c) refl, most (nat_le c 0x46) refl)
    where
      least : (t : Bool) → nat_le 0x30 c ≡ t → 0x30 ≤ c
      least true e = leb-true 0x30 c e
      least false e = let v = value-below c (leb-false 0x30 c e) in let b = ltb-true (value_of c) 16 d in
          absurd (omega arith)

      most : (t : Bool) → nat_le c 0x46 ≡ t → c ≤ 0x46
      most true e = leb-true c 0x46 e
      most false e = let v = value-above c (leb-false c 0x46 e) in let b = ltb-true (value_of c) 16 d in
          absurd (omega arith)

  digit-raised : raised c ≡ c
  digit-raised = let b = digit-between.1 in rw (lt-leb 0x61 c (omega arith))

  digit-other : (x : ℕ) → x < 0x30 → (c == x) ≡ false
  digit-other x h = let b = digit-between.0 in ne_eqb c x (λ e. omega arith)

digits-raised : (cs : List ℕ) → spells 16 cs ≡ true → map raised cs ≡ cs
unfolding all
digits-raised [] d = refl
digits-raised (c ∷ cs) d = rw (
  digit-raised c (and_left (is_digit 16 c) (spells 16 cs) d),
  digits-raised cs (and_right (is_digit 16 c) (spells 16 cs) d),
)

digits-unspaced : (cs : List ℕ) → spells 16 cs ≡ true → unspaced cs ≡ cs
unfolding unspaced all
digits-unspaced [] d = refl
digits-unspaced (c ∷ cs) d =
    rw (
      digit-other c (and_left (is_digit 16 c) (spells 16 cs) d) space (lit< tt),
      digits-unspaced cs (and_right (is_digit 16 c) (spells 16 cs) d),
    )

digits-unreturned : (cs : List ℕ) → spells 16 cs ≡ true → unreturned cs ≡ cs
digits-unreturned [] d = refl
digits-unreturned (c ∷ cs) d =
    let h : length (c ∷ cs) - 1 < length (c ∷ cs) = omega arith in
    let last = all-at (is_digit 16) (c ∷ cs) 0 (length (c ∷ cs) - 1) h d in
    rw (digit-other (slice_index (c ∷ cs) (length (c ∷ cs) - 1)) last carriage_return (lit< tt))

pub digits-unaltered : (cs : List ℕ) → spells 16 cs ≡ true → (mended_chars cs ≡ cs) × (altered_by cs ≡ 0)
digits-unaltered cs d =
    let r = digits-raised cs d in
    let u = digits-unreturned cs d in
    let s = digits-unspaced cs d in
    (simp (r, u, s), simp (r, u, s, same-itself cs))

-- ## A character raised, as its tests find it

pub raised_below : (c : ℕ) → c < 0x61 → c ≡ raised c
raised_below c h = rw (lt-leb 0x61 c h)

pub raised-letter : (c : ℕ) → 0x61 ≤ c → c ≤ 0x66 → c - 0x20 ≡ raised c
raised-letter c h k = rw (le-leb 0x61 c h, le-leb c 0x66 k)

pub raised-above : (c : ℕ) → 0x66 < c → c ≡ raised c
raised-above c h = rw (lt-leb c 0x66 h, and-false (nat_le 0x61 c))

-- ## The end of a line, as its tests find it

pub return-none : (cs : List ℕ) → length cs ≡ 0 → 0 ≡ length (unreturned cs)
return-none [] e = refl
return-none (c ∷ cs) e = absurd (omega arith)

module _ (cs : List ℕ) where
  pub return-off : slice_index_or cs (length cs - 1) 0 ≡ carriage_return → length cs - 1 ≡ length (unreturned cs)
  return-off e = rw (eq-eqb (slice_index cs (length cs - 1)) carriage_return e)
      (sym (length-take-le (length cs - 1) cs (omega arith)))

  pub return_kept : (slice_index cs (length cs - 1) ≢ carriage_return) → length cs ≡ length (unreturned cs)
  return_kept e = rw (ne_eqb (slice_index cs (length cs - 1)) carriage_return e)

-- spaces taken off one by one: the first n characters are left
module _ (s : List ℕ) (n : ℕ) (within : n ≤ length s) (so_far : unspaced (take n s) ≡ unspaced s) where
  module _ (some : 0 < n) where
    last-place : n - 1 + 1 ≡ n
    last-place = omega arith

    last_within : n - 1 < length s
    last_within = omega arith

    pub spaces-on : slice_index_or s (n - 1) 0 ≡ space → unspaced (take (n - 1) s) ≡ unspaced s
    spaces-on e = sym (space-off s (n - 1) last_within e) ∙ ap (λ (k : ℕ). unspaced (take k s)) last-place ∙ so_far

    pub spaces-stop : (slice_index s (n - 1) ≢ space) → n ≡ length (unspaced s)
    spaces-stop e =
        let all_left : unspaced (take n s) ≡ take n s =
        ap (λ (k : ℕ). unspaced (take k s)) (sym last-place) ∙ space-none s (n - 1) last_within e
        ∙ ap (λ (k : ℕ). take k s) last-place in
        sym (ap length (sym so_far ∙ all_left) ∙ length-take-le n s within)

  pub spaces-gone : n ≤ 0 → n ≡ length (unspaced s)
  unfolding unspaced
  spaces-gone h =
      let none : n ≡ 0 = omega arith in
      none ∙ ap length (ap (λ (k : ℕ). unspaced (take k s)) (sym none) ∙ so_far)
