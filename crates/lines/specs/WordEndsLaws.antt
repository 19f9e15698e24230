-- A line's words, as a reader finds and counts them that goes from one character to the next.
use Rattle.std.specs.Prelude.{ℕ, suc, ◌+◌, ◌-◌, ◌<◌, ◌≤◌, ◌≡◌, refl, Bool, eqb, take, drop, get_or}
use Rattle.std.proofs.Common.{sym, ap, ◌∙◌, drop_of_length-le, length-drop, drop-cons, drop-drop, get_or-drop}
use Rattle.std.proofs.Math.Bool.{true, false}
use mathlib.Core.List.{List, [], ◌∷◌}
use native.Mathlib.Omega.{arith}
use Rattle.std.proofs.Math.Numerals.{add-one}
use Rattle.std.proofs.Math.ListN.{length, get_or-eq_default}
use Rattle.std.specs.Prelude.{if◌then◌else◌}
use Rattle.basic_laws.specs.First.{first_at}
use Rattle.text.specs.Lines.{space}
use Rattle.lines.specs.Words.{lengthened, words_of, word_of}
use Rattle.lines.specs.WordsLaws.{words-some}
use Rattle.lines.specs.WordEnds.{space_at, words_ended}

-- ## How many words there are

lengthened-count : (c : ℕ) (ws : List (List ℕ)) → 1 ≤ length ws → length (lengthened c ws) ≡ length ws
lengthened-count c [] h = absurd (omega arith)
lengthened-count c (w ∷ ws) h = refl

module _ (s : List ℕ) (i : ℕ) where
  pub words-on : i < length s → length (words_of (drop i s))
      ≡ words_ended (get_or s i 0) + length (words_of (drop (i + 1) s))
  unfolding words_of
  words-on h = rw (drop-cons s i 0 h, add-one i) (by-test (eqb (get_or s i 0) space))
    where
      by-test : (t : Bool)
          → length (if t then [] ∷ words_of (drop (suc i) s) else lengthened (get_or s i 0) (words_of (drop (suc i) s)))
          ≡ (if t then 1 else 0) + length (words_of (drop (suc i) s))
      by-test true = omega arith
      by-test false = lengthened-count (get_or s i 0) (words_of (drop (suc i) s)) (words-some (drop (suc i) s))
          ∙ omega arith

  pub ended-few : (n : ℕ) → n ≡ words_ended (get_or s i 0) → n ≤ 1
  ended-few n e = rw e (by-test (eqb (get_or s i 0) space))
    where
      by-test : (t : Bool) → (if t then 1 else 0) ≤ 1
      by-test true = omega arith
      by-test false = omega arith

  pub words-end : length s ≤ i → length (words_of (drop i s)) ≡ 1
  unfolding words_of
  words-end h = rw (drop_of_length-le s h)

-- ## The first word, and the others

pub words-first : (s : List ℕ) → get_or (words_of s) 0 [] ≡ take (space_at s) s
unfolding words_of first_at
words-first [] = refl
words-first (c ∷ s) = by-test (eqb c space) (words-first s)
  where
    front : (ws : List (List ℕ)) → 1 ≤ length ws → get_or (lengthened c ws) 0 [] ≡ c ∷ get_or ws 0 []
    front [] h = absurd (omega arith)
    front (w ∷ ws) h = refl

    by-test : (t : Bool) → get_or (words_of s) 0 [] ≡ take (space_at s) s
        → get_or (if t then [] ∷ words_of s else lengthened c (words_of s)) 0 []
        ≡ take (if t then 0 else suc (space_at s)) (c ∷ s)
    by-test true e = refl
    by-test false e = front (words_of s) (words-some s) ∙ ap (λ (w : List ℕ). c ∷ w) e

-- where there is a second word, the first ends at a space, and the others are the words behind it
pub words-rest : (s : List ℕ) → 1 < length (words_of s)
    → (space_at s < length s) × (words_of (drop (space_at s + 1) s) ≡ drop 1 (words_of s))
unfolding words_of first_at
words-rest [] h = absurd (omega arith)
words-rest (c ∷ s) h = by-test (eqb c space) (λ k. words-rest s k) h
  where
    after : (ws : List (List ℕ)) → drop 1 (lengthened c ws) ≡ drop 1 ws
    after [] = refl
    after (w ∷ ws) = refl

    by-test : (t : Bool) → (1 < length (words_of s)
        → (space_at s < length s) × (words_of (drop (space_at s + 1) s) ≡ drop 1 (words_of s)))
        → 1 < length (if t then [] ∷ words_of s else lengthened c (words_of s))
        → ((if t then 0 else suc (space_at s)) < suc (length s))
        × (words_of (drop ((if t then 0 else suc (space_at s)) + 1) (c ∷ s))
        ≡ drop 1 (if t then [] ∷ words_of s else lengthened c (words_of s)))
    by-test true rest k = (omega arith, refl)
    by-test false rest k =
        let more = rest (rw (lengthened-count c (words_of s) (words-some s)) at k) in
        let e : suc (space_at s) + 1 ≡ suc (space_at s + 1) = omega arith in
        (omega arith, rw (e, after (words_of s)) more.1)

-- from one word to the next: behind the end of word j starts word j + 1
module _ (s : List ℕ) (k at j e : ℕ) (h : at ≤ length s) (so : words_of (drop at s) ≡ drop j (words_of s)) (ends : e
    ≡ at + space_at (drop at s)) where
  pub word_next : j < k → k < length (words_of s)
      → (e + 1 ≤ length s) × (words_of (drop (e + 1) s) ≡ drop (j + 1) (words_of s))
  word_next l m =
      let some : 1 < length (words_of (drop at s)) = rw (so, length-drop j (words_of s)) (omega arith) in
      let rest = words-rest (drop at s) some in
      let room = length-drop at s in
      let place : at + (space_at (drop at s) + 1) ≡ e + 1 = omega arith in
      let within = rest.0 in (
        omega arith,
        ap (λ (n : ℕ). words_of (drop n s)) (sym place) ∙ ap words_of (sym (drop-drop (space_at (drop at s) + 1) at s))
            ∙ rest.1 ∙ ap (drop 1) so
            ∙ drop-drop 1 j (words_of s),
      )

  -- the word that starts at a place is the list's next
  pub word-here : (n : ℕ) → n ≡ e - at → take n (drop at s) ≡ get_or (words_of s) j []
  word-here n d =
      let m : n ≡ space_at (drop at s) = omega arith in
      rw m (sym (words-first (drop at s)) ∙ ap (λ (ws : List (List ℕ)). get_or ws 0 []) so ∙ get_or-drop j (words_of s) 0 []
      ∙ ap (λ (i : ℕ). get_or (words_of s) i []) (omega arith))

-- past the last word there is the empty one
pub word-past : (ws : List (List ℕ)) (k : ℕ) → length ws ≤ k → [] ≡ word_of ws k
word-past ws k h = sym (get_or-eq_default ws [] h)
