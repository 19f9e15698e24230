-- How the lines of some bytes are cut: where the first feed stands, as a loop finds it; the first line and the others;
-- one line after the other, by places; and that the lines put back are the bytes.
--     lines-bytes                            the lines of some bytes put back are the bytes
--     lines_cut                              a line with its feed in front of some bytes is cut off as it was
--     plain_lines                            a line without a feed is all of its text
--     lines_next, lines-done the lines from a place on, and that there are none past the end
--     lines-fed, lines-open                  the same by where the first line ends
--     same-line-equal, same-line-itself      the test whether two lines are the same is equality
--     line-by-end, behind-fed, behind-open   the line that starts at a place, and the place behind it, by where it ends
--     lines-behind, bytes-parted             the lines behind the first n, put back: their lines, and the bytes in
--                                            front of them
--     lines_from, lines-place, lines-within  where they begin
--     digits-no-feed                         none of some digits is a feed
use Rattle.std.specs.Prelude.{ℕ, zero, suc, ◌+◌, ◌-◌, ◌<◌, ◌≤◌, ◌≡◌, Bool, not, ◌&&◌, eqb, ltb, take}
use Rattle.std.proofs.Math.Path.{refl, ap}
use Rattle.std.proofs.Common.{sym, ◌∙◌, length-append, take-append-drop, drop-drop, length-take-le, drop_at}
use Rattle.std.proofs.Math.Bool.{true, false}
use Rattle.std.specs.Bool.{beq}
use Rattle.std.proofs.lemmas.Bool.{false≢true}
use mathlib.Core.List.{List, [], ◌∷◌, ◌++◌, append_assoc}
use native.Mathlib.Omega.{arith}
use borrow.Author.Tests.{eqb-true, lt-ltb, le-ltb, leb-true, leb-false, ltb-true, ltb-false, not-true}
use Rattle.std.proofs.Math.Dec.{leb, leb-suc-suc}
use Rattle.std.proofs.Math.ListN.{length, drop, length-drop, drop_of_length-le}
use Rattle.std.proofs.Math.Seq.{take_all}
use Rattle.std.specs.Prelude.{if◌then◌else◌}
use Rattle.basic_laws.specs.Fold.{all}
use Rattle.basic_laws.specs.ChoiceLaws.{and_left, and_right}
use Rattle.basic_laws.specs.First.{first_at}
use Rattle.basic_laws.specs.FirstLaws.{at-within}
use Rattle.basic_laws.specs.Same.{same}
use Rattle.basic_laws.specs.SameLaws.{same-equal, same-itself}
use Rattle.text.specs.Digits.{is_digit, spells}
use Rattle.text.specs.Lines.{line_feed, Line, longer, lines_of, same_line, feed_at, not_feed, width, first_line}
use Rattle.text.specs.Lines.{line_bytes, lines_bytes}

-- the first line, and those of what follows its feed
pub lines-first : (c : ℕ) (s : List ℕ) → lines_of (c ∷ s)
    ≡ first_line (c ∷ s) ∷ lines_of (drop (feed_at (c ∷ s) + 1) (c ∷ s))
unfolding lines_of first_at
lines-first c [] = by-test (eqb c line_feed)
  where
    by-test : (t : Bool)
        → (if t then record { chars = []; fed = true } ∷ [] else longer c [])
        ≡ (record { chars = take (if t then 0 else 1) (c ∷ []); fed = ltb (if t then 0 else 1) 1 }
        ∷ lines_of (drop ((if t then 0 else 1) + 1) (c ∷ [])))
    by-test true = refl
    by-test false = refl
lines-first c (d ∷ s) = by-test (eqb c line_feed) (lines-first d s)
  where
    by-test : (t : Bool) → lines_of (d ∷ s) ≡ (first_line (d ∷ s) ∷ lines_of (drop (feed_at (d ∷ s) + 1) (d ∷ s)))
        → (if t then record { chars = []; fed = true } ∷ lines_of (d ∷ s) else longer c (lines_of (d ∷ s)))
        ≡ (record {
          chars = take (if t then 0 else suc (feed_at (d ∷ s))) (c ∷ d ∷ s);
          fed = ltb (if t then 0 else suc (feed_at (d ∷ s))) (suc (suc (length s)));
        } ∷ lines_of (drop ((if t then 0 else suc (feed_at (d ∷ s))) + 1) (c ∷ d ∷ s)))
    by-test true i = let h : 0 < suc (suc (length s)) = omega arith in rw (lt-ltb 0 (suc (suc (length s))) h)
    by-test false i =
        let n = feed_at (d ∷ s) in
        let k : suc n + 1 ≡ suc (n + 1) = omega arith in
        rw (i, k, leb-suc-suc (suc n) (suc (length s)))

longer-bytes : (c : ℕ) (ls : List Line) → lines_bytes (longer c ls) ≡ c ∷ lines_bytes ls
unfolding lines_bytes
longer-bytes c [] = refl
longer-bytes c (l ∷ ls) = by-test l.fed
  where
    by-test : (t : Bool) → (if t then (c ∷ l.chars) ++ (line_feed ∷ []) else (c ∷ l.chars)) ++ lines_bytes ls
        ≡ c ∷ ((if t then l.chars ++ (line_feed ∷ []) else l.chars) ++ lines_bytes ls)
    by-test true = refl
    by-test false = refl

pub lines-bytes : (s : List ℕ) → lines_bytes (lines_of s) ≡ s
unfolding lines_bytes lines_of
lines-bytes [] = refl
lines-bytes (c ∷ s) = by-test (eqb c line_feed) refl (lines-bytes s)
  where
    by-test : (t : Bool) → eqb c line_feed ≡ t → lines_bytes (lines_of s) ≡ s
        → lines_bytes (if t then record { chars = []; fed = true } ∷ lines_of s else longer c (lines_of s)) ≡ c ∷ s
    by-test true e i = let f = eqb-true c line_feed e in rw (i, f)
    by-test false e i = longer-bytes c (lines_of s) ∙ ap (λ (t : List ℕ). c ∷ t) i

-- a line of characters that are no feed, with its feed, is cut off as it was
pub lines_cut : (cs s : List ℕ) → all not_feed cs ≡ true
    → lines_of (cs ++ (line_feed ∷ []) ++ s) ≡ record { chars = cs; fed = true } ∷ lines_of s
unfolding lines_of all
lines_cut [] s h = refl
lines_cut (c ∷ cs) s h = let e = not-true (eqb c line_feed) (and_left (not_feed c) (all not_feed cs) h) in
    rw (e, lines_cut cs s (and_right (not_feed c) (all not_feed cs) h))

pub plain_lines : (c : ℕ) (u : List ℕ) → all not_feed (c ∷ u) ≡ true
    → lines_of (c ∷ u) ≡ record { chars = c ∷ u; fed = false } ∷ []
unfolding lines_of all
plain_lines c [] h = rw (not-true (eqb c line_feed) (and_left (not_feed c) true h)) refl
plain_lines c (d ∷ u) h =
    let rest = plain_lines d u (and_right (not_feed c) (not_feed d && all not_feed u) h) in
    rw (not-true (eqb c line_feed) (and_left (not_feed c) (not_feed d && all not_feed u) h)) (ap (longer c) rest)

-- ## One line after the other, by places

-- the first line and those behind it
lines_split : (t : List ℕ) → 0 < length t → lines_of t ≡ first_line t ∷ lines_of (drop (width (first_line t)) t)
lines_split [] h = absurd (omega arith)
lines_split (c ∷ r) h =
    let t = c ∷ r in
    lines-first c r ∙ ap (λ (m : List ℕ). first_line t ∷ lines_of m) (past_first t (ltb (feed_at t) (length t)) refl)
  where
    past_first : (t : List ℕ) (u : Bool) → ltb (feed_at t) (length t) ≡ u
        → drop (feed_at t + 1) t ≡ drop (if u then length (take (feed_at t) t) + 1 else length (take (feed_at t) t)) t
    past_first t true e = rw (length-take-le (feed_at t) t (at-within line_feed t))
    past_first t false e =
        let k : length t ≤ feed_at t = ltb-false (feed_at t) (length t) e in
        let m : length t ≤ feed_at t + 1 = omega arith in
        rw (length-take-le (feed_at t) t (at-within line_feed t)) (drop_of_length-le t m ∙ sym (drop_of_length-le t k))

module _ (s : List ℕ) (at : ℕ) where
  pub lines-done : length s ≤ at → lines_of (drop at s) ≡ []
  unfolding lines_of
  lines-done h = rw (drop_of_length-le s h)

  pub lines_next : at < length s → lines_of (drop at s)
      ≡ first_line (drop at s) ∷ lines_of (drop (at + width (first_line (drop at s))) s)
  lines_next h =
      let k : 0 < length (drop at s) = rw (length-drop at s) (omega arith) in
      lines_split (drop at s) k
      ∙ ap (λ (m : List ℕ). first_line (drop at s) ∷ lines_of m) (drop-drop (width (first_line (drop at s))) at s)

-- the lines from a place on, by where the first ends
module _ (s : List ℕ) (at e : ℕ) (before : at < length s) (ends : at + feed_at (drop at s) ≡ e) where
  first-length : feed_at (drop at s) ≡ e - at
  first-length = omega arith

  pub first-size : length (take (e - at) (drop at s)) ≡ e - at
  first-size = let w = at-within line_feed (drop at s) in let l = first-length in
      length-take-le (e - at) (drop at s) (omega arith)

  pub lines-fed : e < length s → lines_of (drop at s)
      ≡ record { chars = take (e - at) (drop at s); fed = true } ∷ lines_of (drop (e + 1) s)
  lines-fed h =
      let t = drop at s in
      let d = length-drop at s in
      let k : e - at < length t = omega arith in
      let z = first-size in
      let n : at + (length (take (e - at) t) + 1) ≡ e + 1 = omega arith in
      let f : first_line t ≡ record { chars = take (e - at) t; fed = true } =
      rw (first-length, lt-ltb (e - at) (length t) k) in
      lines_next s at before ∙ ap (λ (l : Line). l ∷ lines_of (drop (at + width l) s)) f
      ∙ ap (λ (k : ℕ). record { chars = take (e - at) t; fed = true } ∷ lines_of (drop k s)) n

  pub lines-open : length s ≤ e → lines_of (drop at s) ≡ record { chars = drop at s; fed = false } ∷ []
  unfolding lines_of
  lines-open h =
      let t = drop at s in
      let d = length-drop at s in
      let w = at-within line_feed t in
      let k : length t ≤ e - at = omega arith in
      let f : first_line t ≡ record { chars = t; fed = false } =
      rw (first-length, le-ltb (e - at) (length t) k, take_all (e - at) t k) in
      let n : length s ≤ at + length t = omega arith in
      lines_next s at before ∙ ap (λ (l : Line). l ∷ lines_of (drop (at + width l) s)) f
      ∙ ap (λ (m : List ℕ). record { chars = t; fed = false } ∷ lines_of m) (drop_of_length-le s n)

-- ## Two lines

pub same-line-equal : (l m : Line) → same_line l m ≡ true → l ≡ m
same-line-equal l m e = by-feeds l.fed m.fed refl refl e
  where
    both : l.fed ≡ m.fed → same l.chars m.chars ≡ true → l ≡ m
    both f s =
        let c = same-equal l.chars m.chars s in
        ap (λ (cs : List ℕ). record { chars = cs; fed = l.fed }) c
        ∙ ap (λ (t : Bool). record { chars = m.chars; fed = t }) f

    by-feeds : (t u : Bool) → l.fed ≡ t → m.fed ≡ u → (beq t u && same l.chars m.chars) ≡ true → l ≡ m
    by-feeds true true p q s = both (p ∙ sym q) s
    by-feeds false false p q s = both (p ∙ sym q) s
    by-feeds true false p q s = absurd (false≢true s)
    by-feeds false true p q s = absurd (false≢true s)

pub same-line-itself : (l : Line) → same_line l l ≡ true
same-line-itself l = by-feed l.fed
  where
    by-feed : (t : Bool) → (beq t t && same l.chars l.chars) ≡ true
    by-feed true = same-itself l.chars
    by-feed false = same-itself l.chars

-- ## How much of a text lines take

-- the first line of some bytes takes at least one and at most all of them
pub first_width : (t : List ℕ) → 0 < length t → (0 < width (first_line t)) × (width (first_line t) ≤ length t)
first_width t h = by-test (ltb (feed_at t) (length t)) refl
  where
    by-test : (u : Bool) → ltb (feed_at t) (length t) ≡ u →
        let w = if u then length (take (feed_at t) t) + 1 else length (take (feed_at t) t) in (0 < w) × (w ≤ length t)
    by-test true e =
        let k = ltb-true (feed_at t) (length t) e in
        let l = length-take-le (feed_at t) t (at-within line_feed t) in (omega arith, omega arith)
    by-test false e =
        let k = ltb-false (feed_at t) (length t) e in
        let w = at-within line_feed t in
        let l = length-take-le (feed_at t) t w in (omega arith, omega arith)

-- so the line that starts at a place before the end goes on behind it, and ends within the text
pub line-ends : (s : List ℕ) (at : ℕ) → at < length s → let next = at + width (first_line (drop at s)) in
    (at < next) × (next ≤ length s)
line-ends s at h =
    let l = length-drop at s in
    let w = first_width (drop at s) (omega arith) in
    let some = w.0 in
    let most = w.1 in
    (omega arith, omega arith)

pub line-by-end : (s : List ℕ) (at e : ℕ) → at ≤ length s → e ≡ at + feed_at (drop at s)
    → (e ≤ length s) × (first_line (drop at s) ≡ record { chars = take (e - at) (drop at s); fed = ltb e (length s) })
line-by-end s at e h ends =
    let t = drop at s in
    let d = length-drop at s in
    let w = at-within line_feed t in
    let n : feed_at t ≡ e - at = omega arith in
    let most : e ≤ length s = omega arith in
    (most, rw n (ap (λ (u : Bool). record { chars = take (e - at) t; fed = u }) (by-test (ltb e (length s)) refl)))
  where
    by-test : (u : Bool) → ltb e (length s) ≡ u → ltb (e - at) (length (drop at s)) ≡ u
    by-test true k = let d = length-drop at s in let l = ltb-true e (length s) k in
        lt-ltb (e - at) (length (drop at s)) (omega arith)
    by-test false k = let d = length-drop at s in let l = ltb-false e (length s) k in
        le-ltb (e - at) (length (drop at s)) (omega arith)

-- and the place behind it, where it has a feed and where it has none
module _ (s : List ℕ) (at e : ℕ) (ends : e ≡ at + feed_at (drop at s)) where
  characters : at ≤ length s → at + length (take (e - at) (drop at s)) ≡ e
  characters h =
      let most = (line-by-end s at e h ends).0 in
      let d = length-drop at s in
      let size = length-take-le (e - at) (drop at s) (omega arith) in
      omega arith

  pub behind-fed : e < length s → e + 1 ≡ at + width (first_line (drop at s))
  behind-fed k =
      let h : at ≤ length s = omega arith in
      let c = characters h in
      let w = ap width (line-by-end s at e h ends).1 in
      let f = rw (lt-ltb e (length s) k) at w in
      omega arith

  pub behind-open : length s ≤ e → e ≡ at + width (first_line (drop at s))
  unfolding first_at
  behind-open k = by-test (leb at (length s)) refl
    where
      by-test : (t : Bool) → leb at (length s) ≡ t → e ≡ at + width (first_line (drop at s))
      by-test true p =
          let h = leb-true at (length s) p in
          let c = characters h in
          let w = ap width (line-by-end s at e h ends).1 in
          let f = rw (le-ltb e (length s) k) at w in
          omega arith
      by-test false p =
          let h = leb-false at (length s) p in
          let past : length s ≤ at = omega arith in
          let none = drop_of_length-le s past in
          let e0 = rw none at ends in
          rw none e0

-- ## Lines counted one by one

module _ (s : List ℕ) (at next count : ℕ) (before : at < length s) (behind : next
    ≡ at + width (first_line (drop at s))) where
  pub count-on : count + length (lines_of (drop at s)) ≡ length (lines_of s)
      → count + 1 + length (lines_of (drop next s)) ≡ length (lines_of s)
  count-on e =
      let one : length (lines_of (drop at s)) ≡ suc (length (lines_of (drop next s))) =
      ap length (lines_next s at before) ∙ ap (λ (n : ℕ). suc (length (lines_of (drop n s)))) (sym behind) in
      omega arith

pub count-end : (s : List ℕ) (at count : ℕ) → length s ≤ at → count + length (lines_of (drop at s)) ≡ length (lines_of s)
    → count ≡ length (lines_of s)
count-end s at count h e = let none = ap length (lines-done s at h) in omega arith

pub line-bytes-append : (ls ms : List Line) → lines_bytes (ls ++ ms) ≡ lines_bytes ls ++ lines_bytes ms
unfolding lines_bytes
line-bytes-append [] ms = refl
line-bytes-append (l ∷ ls) ms = rw (line-bytes-append ls ms)
    (sym (append_assoc (line_bytes l) (lines_bytes ls) (lines_bytes ms)))

behind-none : (n : ℕ) → lines_of (lines_bytes (drop n (lines_of []))) ≡ drop n (lines_of [])
unfolding lines_of lines_bytes
behind-none zero = refl
behind-none (suc n) = refl

-- lines of a text, put back and cut again, are the same
pub lines-behind : (s : List ℕ) (n : ℕ) → lines_of (lines_bytes (drop n (lines_of s))) ≡ drop n (lines_of s)
lines-behind s zero = ap lines_of (lines-bytes s)
lines-behind [] (suc n) = behind-none (suc n)
lines-behind (c ∷ s) (suc n) = rw (lines-first c s) (lines-behind (drop (feed_at (c ∷ s) + 1) (c ∷ s)) n)

-- the bytes of the first n lines, and behind them those of the others
module _ (s : List ℕ) (n : ℕ) where
  pub bytes-parted : s ≡ lines_bytes (take n (lines_of s)) ++ lines_bytes (drop n (lines_of s))
  bytes-parted =
      sym (lines-bytes s) ∙ ap lines_bytes (sym (take-append-drop n (lines_of s)))
      ∙ line-bytes-append (take n (lines_of s)) (drop n (lines_of s))

  pub lines_from : drop (length (lines_bytes (take n (lines_of s)))) s ≡ lines_bytes (drop n (lines_of s))
  lines_from =
      let before = lines_bytes (take n (lines_of s)) in
      ap (drop (length before)) bytes-parted ∙ drop_at before (lines_bytes (drop n (lines_of s))) (length before) refl

  pub lines-place : (at : ℕ) → at ≤ length s → lines_of (drop at s) ≡ drop n (lines_of s)
      → length (lines_bytes (take n (lines_of s))) ≡ at
  lines-place at h e =
      let behind : lines_bytes (drop n (lines_of s)) ≡ drop at s = ap lines_bytes (sym e) ∙ lines-bytes (drop at s) in
      let whole = ap length bytes-parted ∙ length-append (lines_bytes (take n (lines_of s)))
      (lines_bytes (drop n (lines_of s))) in
      let size = ap length behind ∙ length-drop at s in
      omega arith

  pub lines-within : length (lines_bytes (take n (lines_of s))) ≤ length s
  lines-within =
      let whole = ap length bytes-parted ∙ length-append (lines_bytes (take n (lines_of s)))
      (lines_bytes (drop n (lines_of s))) in
      omega arith

-- ## Digits

digit-no-feed : (base c : ℕ) → base ≤ 16 → is_digit base c ≡ true → not_feed c ≡ true
digit-no-feed base c small h = by-test (eqb c line_feed) refl
  where
    by-test : (t : Bool) → eqb c line_feed ≡ t → not t ≡ true
    by-test true e =
        let f = eqb-true c line_feed e in
        let below = ltb-true 16 base (rw f at h) in
        absurd (omega arith)
    by-test false e = refl

pub digits-no-feed : (base : ℕ) (cs : List ℕ) → base ≤ 16 → spells base cs ≡ true → all not_feed cs ≡ true
unfolding all
digits-no-feed base [] small h = refl
digits-no-feed base (c ∷ cs) small h =
    let e = digit-no-feed base c small (and_left (is_digit base c) (spells base cs) h) in
    let i = digits-no-feed base cs small (and_right (is_digit base c) (spells base cs) h) in
    rw (e, i)
