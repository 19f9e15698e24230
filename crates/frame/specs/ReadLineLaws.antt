-- Each way in which a line is refused, as the reader meets it, and what an accepted line tells.
use Rattle.std.specs.Prelude.{ℕ, ◌+◌, ◌*◌, ◌<◌, ◌≤◌, ◌≡◌, refl, Bool, true, false, ◌&&◌, ◌||◌, List, leb, ltb, drop}
use Rattle.std.proofs.Common.{◌∙◌, length-drop}
use Rattle.std.proofs.Math.Bool.{and-false}
use native.Mathlib.Omega.{arith}
use borrow.Author.Tests.{leb-true, lt-ltb, le-ltb, ltb-false, le-leb, lt-leb, eq-eqb, ne_eqb}
use Rattle.std.proofs.Math.Dec.{eqb}
use Rattle.std.proofs.Math.ListN.{length}
use Rattle.std.specs.Prelude.{if◌then◌else◌}
use Rattle.basic_laws.specs.Laid.{laid}
use Rattle.refusals.specs.Refusals.{not_hex, malformed}
use Rattle.frame.specs.declared.Frame.{Frame}
use Rattle.basic_laws.specs.ChoiceLaws.{and_left, and_right}
use Rattle.text.specs.Digits.{bytes_of, spells}
use Rattle.text.specs.DigitsLaws.{pairs-length}
use Rattle.frame.specs.Frames.{no_bits, bytes_for, count_allowed, clear_from, most_slots}
use Rattle.frame.specs.FramesLaws.{pad-clear}
use Rattle.text.specs.Lines.{Line}
use Rattle.frame.specs.ReadLine.{longest_line, presence_in, slot_count_in, frame_in, well_formed, carries, no_frame}
use Rattle.frame.specs.ReadLine.{read_digits, read_line, read_body}

-- ## Each way a line is refused before its digits are looked into

module _ (l : Line) where
  pub read-long : longest_line < length l.chars → read_line l ≡ no_frame malformed
  unfolding read_line
  read-long h = rw (lt-ltb longest_line (length l.chars) h)

  pub read-open : length l.chars ≤ longest_line → l.fed ≡ false → read_line l ≡ no_frame not_hex
  unfolding read_line
  read-open h e = rw (le-ltb longest_line (length l.chars) h, e, and-false (spells 16 l.chars))

  pub read-other : length l.chars ≤ longest_line → spells 16 l.chars ≡ false → read_line l ≡ no_frame not_hex
  unfolding read_line
  read-other h e = rw (le-ltb longest_line (length l.chars) h, e)

  pub read-fed : length l.chars ≤ longest_line → l.fed ≡ true → spells 16 l.chars ≡ true
      → read_line l ≡ read_digits l.chars
  unfolding read_line
  read-fed h e d = rw (le-ltb longest_line (length l.chars) h, e, d)

-- ## What an accepted line tells

pub record Accepted (l : Line) (f : Frame) : Type 0 where
  pub short : length l.chars ≤ longest_line
  pub digital : spells 16 l.chars ≡ true
  pub ended : l.fed ≡ true
  pub formed : well_formed l.chars ≡ true
  pub spelt : frame_in l.chars ≡ f

pub read-accepted : (l : Line) (f : Frame) → read_line l ≡ carries f → Accepted l f
unfolding read_line read_digits
read-accepted l f h = by-test (ltb longest_line (length l.chars)) refl (spells 16 l.chars
    && l.fed) refl (well_formed l.chars) refl h
  where
    by-test : (t : Bool) → ltb longest_line (length l.chars) ≡ t → (u : Bool) → (spells 16 l.chars && l.fed) ≡ u
        → (v : Bool) → well_formed l.chars ≡ v
        → (if t then no_frame malformed else if u then (if v then carries (frame_in l.chars) else no_frame malformed)
        else no_frame not_hex) ≡ carries f
        → Accepted l f
    by-test true a u b v c h = let z : ◌≡◌ {A = ℕ} 0 1 = cc in absurd (omega arith)
    by-test false a false b v c h = let z : ◌≡◌ {A = ℕ} 0 1 = cc in absurd (omega arith)
    by-test false a true b false c h = let z : ◌≡◌ {A = ℕ} 0 1 = cc in absurd (omega arith)
    by-test false a true b true c h = record {
      short = ltb-false longest_line (length l.chars) a;
      digital = and_left (spells 16 l.chars) l.fed b;
      ended = and_right (spells 16 l.chars) l.fed b;
      formed = c;
      spelt = cc;
    }

-- a line that carries none is refused with 2 or 3
pub refused-number : (l : Line) (n : ℕ) → read_line l ≡ no_frame n → (1 < n) × (n < 4)
unfolding read_line read_digits
refused-number l n h = by-test (ltb longest_line (length l.chars)) (spells 16 l.chars
    && l.fed) (well_formed l.chars) h
  where
    by-test : (t u v : Bool)
        → (if t then no_frame malformed else if u then (if v then carries (frame_in l.chars) else no_frame malformed)
        else no_frame not_hex) ≡ no_frame n
        → (1 < n) × (n < 4)
    by-test true u v e = let k : malformed ≡ n = cc in (omega arith, omega arith)
    by-test false true true e = let z : ◌≡◌ {A = ℕ} 0 1 = cc in absurd (omega arith)
    by-test false true false e = let k : malformed ≡ n = cc in (omega arith, omega arith)
    by-test false false v e = let k : not_hex ≡ n = cc in (omega arith, omega arith)

pub accepted-read : (l : Line) (f : Frame) → Accepted l f → read_line l ≡ carries f
unfolding read_line read_digits
accepted-read l f a =
    rw (le-ltb longest_line (length l.chars) a.short, a.digital, a.ended, a.formed, a.spelt)

-- ## The slots' digits

pub body-length : (cs : List ℕ) (n : ℕ) → length cs ≡ 2 * bytes_for n → length (bytes_of cs) ≡ bytes_for n
body-length cs n e = pairs-length (bytes_for n) cs e

pub slots-clear : (p : Bool) (n : ℕ) (cs : List ℕ) → clear_from n (bytes_of cs) ≡ true
    → read_body p n cs ≡ carries record { presence = p; count = n; bits = laid no_bits 0 (bytes_of cs) }
unfolding read_body
slots-clear p n cs h = rw h

pub slots-spare : (p : Bool) (n : ℕ) (cs : List ℕ) → clear_from n (bytes_of cs) ≡ false
    → read_body p n cs ≡ no_frame malformed
unfolding read_body
slots-spare p n cs h = rw h

-- ## Each way a line of digits is refused by its head

module _ (cs : List ℕ) where
  unformed : well_formed cs ≡ false → read_digits cs ≡ no_frame malformed
  unfolding read_digits
  unformed e = rw e

  pub wrong-presence : 1 < presence_in cs → read_digits cs ≡ no_frame malformed
  wrong-presence h = unformed (rw (lt-leb (presence_in cs) 1 h))

  pub wrong-length : (length cs ≡ 6 + 2 * bytes_for (slot_count_in cs) → ⊥) → read_digits cs ≡ no_frame malformed
  wrong-length h = unformed (rw (
    ne_eqb (length cs) (6 + 2 * bytes_for (slot_count_in cs)) h,
    and-false (leb (presence_in cs) 1),
  ))

  pub wrong-count : count_allowed (eqb (presence_in cs) 1) (slot_count_in cs) ≡ false → read_digits cs ≡ no_frame malformed
  wrong-count h = unformed (rw (
    h,
    and-false (leb (presence_in cs) 1
        && eqb (length cs) (6 + 2 * bytes_for (slot_count_in cs))),
  ))

  -- behind a head that is in order the slots decide
  pub right-head : presence_in cs ≤ 1 → count_allowed (eqb (presence_in cs) 1) (slot_count_in cs) ≡ true
      → length cs ≡ 6 + 2 * bytes_for (slot_count_in cs)
      → read_digits cs ≡ read_body (eqb (presence_in cs) 1) (slot_count_in cs) (drop 6 cs)
  unfolding read_digits read_body
  right-head p c l =
      let few : slot_count_in cs ≤ most_slots = leb-true (slot_count_in cs) most_slots
      (and_left (leb (slot_count_in cs) most_slots) (eqb (presence_in cs) 1 || eqb (slot_count_in cs) 0) c) in
      let b = body-length (drop 6 cs) (slot_count_in cs) (length-drop 6 cs ∙ omega arith) in
      let small : length (bytes_of (drop 6 cs)) ≤ 64 = omega arith in
      let wide : slot_count_in cs ≤ 8 * length (bytes_of (drop 6 cs)) = omega arith in
      rw (
        le-leb (presence_in cs) 1 p,
        eq-eqb (length cs) (6 + 2 * bytes_for (slot_count_in cs)) l,
        c,
        pad-clear (bytes_of (drop 6 cs)) small (slot_count_in cs) wide,
      )
