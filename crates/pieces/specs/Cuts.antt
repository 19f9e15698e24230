-- Whatever the cuts, and whatever is said for a line: what is said for the pieces of a text, one after the other, is
-- what is said for the text as a whole, where what is carried of an unfinished line tells what the line says.
--     any-cuts               the theorem
--     parts                  what is said for a text: that of its whole lines, and that of the rest
use Rattle.std.specs.Prelude.{ℕ, ◌<◌, ◌≡◌, refl, Bool, true, eqb, length}
use Rattle.std.proofs.Common.{sym, ◌∙◌, arith}
use Rattle.std.proofs.Math.Path.{ap}
use Rattle.std.proofs.Math.Bool.{false}
use mathlib.Core.List.{List, [], ◌∷◌, ◌++◌, append_assoc, append-nil}
use Rattle.std.proofs.lemmas.Bool.{not-true}
use Rattle.std.specs.Prelude.{if◌then◌else◌}
use Rattle.basic_laws.specs.Fold.{all}
use Rattle.basic_laws.specs.ChoiceLaws.{and_left, and_right}
use Rattle.text.specs.Lines.{Line, line_feed, not_feed, longer, lines_of}
use Rattle.pieces.specs.Pieces.{say_all, said, whole, rest, said_whole}

-- ## A text in two parts

pub say-append : (say : Line → List ℕ) (ls ms : List Line) → say_all say (ls ++ ms) ≡ say_all say ls ++ say_all say ms
unfolding say_all
say-append say [] ms = refl
say-append say (l ∷ ls) ms = rw (say-append say ls ms) (sym (append_assoc (say l) (say_all say ls) (say_all say ms)))

-- one character in front of lines, where more bytes follow
longer-split : (c : ℕ) (ls : List Line) (r : List ℕ) (h : eqb c line_feed ≡ false)
    → longer c (whole ls ++ lines_of (rest ls ++ r)) ≡ whole (longer c ls) ++ lines_of (rest (longer c ls) ++ r)
unfolding whole rest lines_of
longer-split c [] r h = rw h
longer-split c (l ∷ ls) r h = by-test l.fed refl
  where
    by-test : (t : Bool) → l.fed ≡ t →
        longer c ((if t then l ∷ whole ls else []) ++ lines_of ((if t then rest ls else l.chars) ++ r))
        ≡ (if t then record { chars = c ∷ l.chars; fed = l.fed } ∷ whole ls else [])
        ++ lines_of ((if t then rest ls else c ∷ l.chars) ++ r)
    by-test true e = refl
    by-test false e = rw h

-- the lines of two parts: those that have their feed in the first, and those of the unfinished one and the second
pub lines_split : (s r : List ℕ) → lines_of (s ++ r) ≡ whole (lines_of s) ++ lines_of (rest (lines_of s) ++ r)
unfolding whole rest lines_of
lines_split [] r = refl
lines_split (c ∷ s) r = by-test (eqb c line_feed) refl (lines_split s r)
  where
    by-test : (t : Bool) → eqb c line_feed ≡ t
        → lines_of (s ++ r) ≡ whole (lines_of s) ++ lines_of (rest (lines_of s) ++ r) →
        let ls = if t then record { chars = []; fed = true } ∷ lines_of s else longer c (lines_of s) in
        (if t then record { chars = []; fed = true } ∷ lines_of (s ++ r) else longer c (lines_of (s ++ r)))
        ≡ whole ls ++ lines_of (rest ls ++ r)
    by-test true e i = rw i
    by-test false e i = rw i (longer-split c (lines_of s) r e)

-- the unfinished line has no feed in it
rest-longer : (c : ℕ) (ls : List Line) → eqb c line_feed ≡ false → all not_feed (rest ls) ≡ true
    → all not_feed (rest (longer c ls)) ≡ true
unfolding rest all
rest-longer c [] e h = rw e
rest-longer c (l ∷ ls) e h = by-test l.fed refl h
  where
    by-test : (t : Bool) → l.fed ≡ t → all not_feed (if t then rest ls else l.chars) ≡ true
        → all not_feed (if t then rest ls else c ∷ l.chars) ≡ true
    by-test true f i = i
    by-test false f i = rw (e, i)

pub rest_plain : (s : List ℕ) → all not_feed (rest (lines_of s)) ≡ true
unfolding rest lines_of all
rest_plain [] = refl
rest_plain (c ∷ s) = by-test (eqb c line_feed) refl (rest_plain s)
  where
    by-test : (t : Bool) → eqb c line_feed ≡ t → all not_feed (rest (lines_of s)) ≡ true
        → all not_feed (rest (if t then record { chars = []; fed = true } ∷ lines_of s else longer c (lines_of s))) ≡ true
    by-test true e i = i
    by-test false e i = rest-longer c (lines_of s) e i

pub parts : (say : Line → List ℕ) (s : List ℕ) → said say s ≡ said_whole say s ++ said say (rest (lines_of s))
parts say s =
    ap (said say) (sym (append-nil s)) ∙ ap (say_all say) (lines_split s [])
    ∙ say-append say (whole (lines_of s)) (lines_of (rest (lines_of s) ++ []))
    ∙ ap (λ (u : List ℕ). said_whole say s ++ said say u) (append-nil (rest (lines_of s)))

-- ## Characters without a feed in front of a text

-- the first line with characters in front
abbrev pub prefixed : List ℕ → List Line → List Line
prefixed u [] = record { chars = u; fed = false } ∷ []
prefixed u (l ∷ ls) = record { chars = u ++ l.chars; fed = l.fed } ∷ ls

lines-prefixed : (c : ℕ) (u r : List ℕ) → all not_feed (c ∷ u) ≡ true
    → lines_of ((c ∷ u) ++ r) ≡ prefixed (c ∷ u) (lines_of r)
unfolding lines_of all
lines-prefixed c [] r h =
    let e = not-true (eqb c line_feed) (and_left (not_feed c) true h) in rw e (alone (lines_of r))
  where
    alone : (ls : List Line) → longer c ls ≡ prefixed (c ∷ []) ls
    alone [] = refl
    alone (l ∷ ls) = refl
lines-prefixed c (d ∷ u) r h =
    let e = not-true (eqb c line_feed) (and_left (not_feed c) (all not_feed (d ∷ u)) h) in
    let i = lines-prefixed d u r (and_right (not_feed c) (all not_feed (d ∷ u)) h) in
    rw (e, i) (again (lines_of r))
  where
    again : (ls : List Line) → longer c (prefixed (d ∷ u) ls) ≡ prefixed (c ∷ d ∷ u) ls
    again [] = refl
    again (l ∷ ls) = refl

pub nonempty-prefixed : (u r : List ℕ) → 0 < length u → all not_feed u ≡ true → lines_of (u ++ r) ≡ prefixed u (lines_of r)
nonempty-prefixed [] r h k = absurd (omega arith)
nonempty-prefixed (c ∷ u) r h k = lines-prefixed c u r k

module _ (say : Line → List ℕ) where
  -- characters without a feed by themselves are one line
  pub alone-open : (u : List ℕ) → 0 < length u → all not_feed u ≡ true
      → said say u ≡ say record { chars = u; fed = false }
  unfolding say_all lines_of
  alone-open u h k =
      let e : lines_of u ≡ record { chars = u; fed = false } ∷ [] =
      ap lines_of (sym (append-nil u)) ∙ nonempty-prefixed u [] h k in
      ap (say_all say) e ∙ append-nil (say record { chars = u; fed = false })
