-- What is known of a line is what text says of its characters: how many there are up to nine, whether they are digits,
-- and of eight digits the number.
--     gathered-time          of eight digits the number is known
--     gathered-more          one character more
use Rattle.std.specs.Prelude.{ℕ, ◌+◌, ◌*◌, ◌%◌, ◌<◌, ◌≤◌, min, ◌≡◌, refl, Bool, true, false, ◌&&◌, List, [], ◌∷◌, ◌++◌, ltb, length}
use Rattle.std.proofs.Common.{sym, ap, ◌∙◌, arith, mod-eq_of_lt, ltb-true, ltb-false}
use Rattle.std.proofs.Math.Bool.{and-true, and_assoc}
use Rattle.std.specs.Prelude.{if◌then◌else◌}
use Rattle.basic_laws.specs.Fold.{fold, all}
use Rattle.basic_laws.specs.FoldLaws.{fold-append}
use Rattle.text.specs.Digits.{value_of, is_digit, spells, then_digit, number_in}
use Rattle.text.specs.DigitsLaws.{number-below}
use Rattle.captures.specs.declared.edge_lines.Partial.{Partial}
use Rattle.captures.specs.Partial.{time_digits, time_bound, no_line, counted, longer_partial, gathered_time}

-- ## How many

counted-least : (n : ℕ) → n ≤ 9 → counted n ≡ min 9 (n + 1)
counted-least n h = by-test (ltb n 9) refl
  where
    by-test : (t : Bool) → ltb n 9 ≡ t → (if t then n + 1 else n) ≡ min 9 (n + 1)
    by-test true e = let k = ltb-true n 9 e in omega arith
    by-test false e = let k = ltb-false n 9 e in omega arith

count-after : (l : Partial) (cs : List ℕ) → l.count ≤ 9 → (fold longer_partial l cs).count ≡ min 9 (l.count + length cs)
unfolding fold
count-after l [] h = omega arith
count-after l (c ∷ cs) h =
    let e = counted-least l.count h in
    let few : counted l.count ≤ 9 = omega arith in
    let rest = count-after (longer_partial l c) cs few in
    omega arith

pub gathered-count : (cs : List ℕ) → (gathered_time cs).count ≡ min 9 (length cs)
gathered-count cs = let e = count-after no_line cs (omega arith) in omega arith

-- ## Whether they are digits

spelt-after : (l : Partial) (cs : List ℕ) → (fold longer_partial l cs).spelt ≡ (l.spelt && spells 16 cs)
unfolding fold all
spelt-after l [] = sym (and-true l.spelt)
spelt-after l (c ∷ cs) = spelt-after (longer_partial l c) cs ∙ and_assoc l.spelt (is_digit 16 c) (spells 16 cs)

pub gathered-spelt : (cs : List ℕ) → (gathered_time cs).spelt ≡ spells 16 cs
gathered-spelt cs = spelt-after no_line cs

-- ## The number

digit-within : (x v : ℕ) → (16 * (x % time_bound) + v) % time_bound ≡ (16 * x + v) % time_bound
digit-within x v = omega arith

digits-within : (cs : List ℕ) (x y : ℕ) → x % time_bound ≡ y % time_bound
    → fold (then_digit 16) x cs % time_bound ≡ fold (then_digit 16) y cs % time_bound
unfolding fold
digits-within [] x y e = e
digits-within (c ∷ cs) x y e =
    let v = value_of c in
    let same : (16 * x + v) % time_bound ≡ (16 * y + v) % time_bound =
    sym (digit-within x v) ∙ ap (λ (z : ℕ). (16 * z + v) % time_bound) e ∙ digit-within y v in
    digits-within cs (then_digit 16 x c) (then_digit 16 y c) same

number-after : (l : Partial) (cs : List ℕ) → l.number < time_bound
    → (fold longer_partial l cs).number ≡ fold (then_digit 16) l.number cs % time_bound
unfolding fold
number-after l [] h = sym (mod-eq_of_lt h)
number-after l (c ∷ cs) h =
    let x = then_digit 16 l.number c in
    let few : x % time_bound < time_bound = omega arith in
    let again : x % time_bound % time_bound ≡ x % time_bound = omega arith in
    number-after (longer_partial l c) cs few ∙ digits-within cs (x % time_bound) x again

pub gathered-time : (cs : List ℕ) → spells 16 cs ≡ true → length cs ≡ time_digits
    → (gathered_time cs).number ≡ number_in 16 cs
unfolding number_in
gathered-time cs digital size =
    let below : number_in 16 cs < time_bound = rw size at (number-below 16 cs digital) in
    number-after no_line cs (omega arith) ∙ mod-eq_of_lt below

pub gathered-more : (cs : List ℕ) (c : ℕ) → longer_partial (gathered_time cs) c ≡ gathered_time (cs ++ (c ∷ []))
unfolding fold
gathered-more cs c = sym (fold-append longer_partial no_line cs (c ∷ []))
