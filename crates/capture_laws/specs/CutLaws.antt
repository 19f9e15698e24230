-- The course of a text in two parts: that of the first, and from where that left the line the course of its unfinished
-- characters and the second.
--     course-on              where the first was not refused
--     course-stop            a refusal in the first ends the course of both
--     left-plain             no feed stands in the unfinished characters
use Rattle.std.specs.Prelude.{ℕ, ◌≡◌, refl, Bool, true, false, not, List, [], ◌∷◌, ◌++◌, eqb}
use Rattle.std.proofs.Common.{sym, ap, ◌∙◌}
use Rattle.std.proofs.lemmas.Bool.{eqb-false}
use Rattle.std.specs.Prelude.{if◌then◌else◌}
use Rattle.basic_laws.specs.Fold.{all}
use Rattle.refusals.specs.Refusals.{accepted}
use Rattle.text.specs.Lines.{Line, not_feed, lines_of}
use Rattle.pieces.specs.Pieces.{whole, rest}
use Rattle.pieces.specs.Cuts.{lines_split, rest_plain}
use Rattle.frame.specs.declared.Frame.{Frame}
use Rattle.captures.specs.declared.pulses.Wire.{Wire}
use Rattle.captures.specs.declared.pulses.Step.{Step}
use Rattle.capture_laws.specs.Capture.{line_step, EdgeCourse, course_stopped, closing, course_onward, course_of}

-- frames closed before a course
abbrev pub behind : List Frame → EdgeCourse → EdgeCourse
behind fs c = record { frames = fs ++ c.frames; refusal = c.refusal; wire = c.wire; left = c.left }

-- one line before two parts: c is the course of the first part, d that of both
module _ (w : Wire) (s : Step) (c d : EdgeCourse) (more : Wire → EdgeCourse) where
  onward-on : (c.refusal ≡ accepted → d ≡ behind c.frames (more c.wire))
      → (course_onward w s c).refusal ≡ accepted
      → course_onward w s d ≡ behind (course_onward w s c).frames (more (course_onward w s c).wire)
  onward-on h = by-test (eqb s.refusal accepted) refl s.closes
    where
      by-test : (t : Bool) → eqb s.refusal accepted ≡ t → (u : Bool) →
          let first = if not t then course_stopped w s.refusal [] else if u then closing w.frame c else c in
          first.refusal ≡ accepted
          → (if not t then course_stopped w s.refusal [] else if u then closing w.frame d else d)
          ≡ behind first.frames (more first.wire)
      by-test true e true k = ap (closing w.frame) (h k)
      by-test true e false k = h k
      by-test false e u k = absurd (eqb-false s.refusal accepted e k)

  onward-stop : ((c.refusal ≡ accepted → ⊥) → d ≡ c) → ((course_onward w s c).refusal ≡ accepted → ⊥)
      → course_onward w s d ≡ course_onward w s c
  onward-stop h = by-test (not (eqb s.refusal accepted)) s.closes
    where
      by-test : (t u : Bool) → ((if t then course_stopped w s.refusal [] else if u then closing w.frame c
          else c).refusal ≡ accepted → ⊥)
          → (if t then course_stopped w s.refusal [] else if u then closing w.frame d else d)
          ≡ (if t then course_stopped w s.refusal [] else if u then closing w.frame c else c)
      by-test true u k = refl
      by-test false true k = ap (closing w.frame) (h k)
      by-test false false k = h k

lines-on : (w : Wire) (ls ms : List Line) → (course_of w ls).refusal ≡ accepted
    → course_of w (whole ls ++ ms) ≡ behind (course_of w ls).frames (course_of (course_of w ls).wire ms)
unfolding course_of whole
lines-on w [] ms h = refl
lines-on w (l ∷ ls) ms h = by-feed l.fed refl h (lines-on (line_step w l.chars).wire ls ms)
  where
    by-feed : (t : Bool) → l.fed ≡ t →
        let s = line_step w l.chars in
        let first = if t then course_onward w s (course_of s.wire ls) else course_stopped w accepted l.chars in
        first.refusal ≡ accepted
        → ((course_of s.wire ls).refusal ≡ accepted
        → course_of s.wire (whole ls ++ ms) ≡ behind (course_of s.wire ls).frames
        (course_of (course_of s.wire ls).wire ms))
        → course_of w ((if t then l ∷ whole ls else []) ++ ms) ≡ behind first.frames (course_of first.wire ms)
    by-feed true e k on =
        let s = line_step w l.chars in
        rw e (onward-on w s (course_of s.wire ls) (course_of s.wire (whole ls ++ ms)) (λ v. course_of v ms) on k)
    by-feed false e k on = refl

lines-stop : (w : Wire) (ls ms : List Line) → ((course_of w ls).refusal ≡ accepted → ⊥)
    → course_of w (whole ls ++ ms) ≡ course_of w ls
unfolding course_of whole
lines-stop w [] ms h = absurd (h refl)
lines-stop w (l ∷ ls) ms h = by-feed l.fed refl h (lines-stop (line_step w l.chars).wire ls ms)
  where
    by-feed : (t : Bool) → l.fed ≡ t →
        let s = line_step w l.chars in
        let first = if t then course_onward w s (course_of s.wire ls) else course_stopped w accepted l.chars in
        (first.refusal ≡ accepted → ⊥)
        → (((course_of s.wire ls).refusal ≡ accepted → ⊥)
        → course_of s.wire (whole ls ++ ms) ≡ course_of s.wire ls)
        → course_of w ((if t then l ∷ whole ls else []) ++ ms) ≡ first
    by-feed true e k stop =
        let s = line_step w l.chars in
        rw e (onward-stop w s (course_of s.wire ls) (course_of s.wire (whole ls ++ ms)) (λ v. course_of v ms) stop k)
    by-feed false e k stop = absurd (k refl)

-- the characters behind the last feed
onward-left : (w : Wire) (s : Step) (c : EdgeCourse) (u : List ℕ) → (c.refusal ≡ accepted → c.left ≡ u)
    → (course_onward w s c).refusal ≡ accepted → (course_onward w s c).left ≡ u
onward-left w s c u h = by-test (eqb s.refusal accepted) refl s.closes
  where
    by-test : (t : Bool) → eqb s.refusal accepted ≡ t → (b : Bool) →
        let first = if not t then course_stopped w s.refusal [] else if b then closing w.frame c else c in
        first.refusal ≡ accepted → first.left ≡ u
    by-test true e true k = h k
    by-test true e false k = h k
    by-test false e b k = absurd (eqb-false s.refusal accepted e k)

lines_left : (w : Wire) (ls : List Line) → (course_of w ls).refusal ≡ accepted → (course_of w ls).left ≡ rest ls
unfolding course_of rest
lines_left w [] h = refl
lines_left w (l ∷ ls) h = by-feed l.fed h (lines_left (line_step w l.chars).wire ls)
  where
    by-feed : (t : Bool) →
        let s = line_step w l.chars in
        let first = if t then course_onward w s (course_of s.wire ls) else course_stopped w accepted l.chars in
        first.refusal ≡ accepted → ((course_of s.wire ls).refusal ≡ accepted → (course_of s.wire ls).left ≡ rest ls)
        → first.left ≡ (if t then rest ls else l.chars)
    by-feed true k on = let s = line_step w l.chars in onward-left w s (course_of s.wire ls) (rest ls) on k
    by-feed false k on = refl

-- ## Texts

module _ (w : Wire) (s t : List ℕ) where
  abbrev first_part : EdgeCourse
  first_part = course_of w (lines_of s)

  pub course-on : first_part.refusal ≡ accepted
      → course_of w (lines_of (s ++ t)) ≡ behind first_part.frames
      (course_of first_part.wire (lines_of (first_part.left ++ t)))
  course-on h =
      ap (course_of w) (lines_split s t) ∙ lines-on w (lines_of s) (lines_of (rest (lines_of s) ++ t)) h
      ∙ ap (λ (u : List ℕ). behind first_part.frames (course_of first_part.wire (lines_of (u ++ t))))
      (sym (lines_left w (lines_of s) h))

  pub course-stop : (first_part.refusal ≡ accepted → ⊥) → course_of w (lines_of (s ++ t)) ≡ first_part
  course-stop h = ap (course_of w) (lines_split s t) ∙ lines-stop w (lines_of s) (lines_of (rest (lines_of s) ++ t)) h

pub left-plain : (w : Wire) (s : List ℕ) → (course_of w (lines_of s)).refusal ≡ accepted
    → all not_feed (course_of w (lines_of s)).left ≡ true
left-plain w s h = rw (lines_left w (lines_of s) h) (rest_plain s)
