-- What becomes of a line, by its length, its feed, and how it reads once mended: a line that reads is not altered, so
-- that it is enough to read it mended.
use Rattle.std.specs.Prelude.{◌≡◌, ℕ, ◌+◌, ◌<◌, ◌≤◌, Bool, true, false, List, [], ◌∷◌, ◌++◌, length, ◌==◌, ◌≢◌, nat_eq, nat_lt}
use Rattle.std.proofs.Math.Path.{refl}
use Rattle.std.proofs.Common.{sym, ap, ◌∙◌}
use mathlib.Core.List.{append-nil}
use native.Mathlib.Omega.{arith}
use borrow.Author.Tests.{lt-ltb, le-ltb, ltb-true, ltb-false, eq-eqb, ne_eqb, eqb-true, eqb-false}
use Rattle.std.specs.Prelude.{if◌then◌else◌}
use Rattle.refusals.specs.Refusals.{accepted, not_hex, malformed}
use Rattle.text.specs.Digits.{spells}
use Rattle.text.specs.Lines.{Line, line_feed, lines_bytes}
use Rattle.text.specs.Laying.{lay_answer, lay_leaves}
use Rattle.text.proofs.LayingLaws.{lay-fits}
use Rattle.frame.specs.ReadLine.{LineContent, carries, no_frame, read_line, longest_line, found, line_answer_of}
use Rattle.frame.specs.ReadLineLaws.{read-accepted, refused-number}
use Rattle.mending.specs.Mending.{mended_chars, altered_by, content_refusal, line_refusal, mended_line, longest_mended}
use Rattle.mending.specs.Mending.{Fate, kept, mended, dropped, fate_of, fate_byte, report_byte, left, lines_left}
use Rattle.mending.specs.Mending.{mended_bytes, reported, line_mended}
use Rattle.mending.specs.StepLaws.{digits-unaltered, unaltered-same}

-- ## A line that reads

pub record Reads (l : Line) : Type 0 where
  pub few : length l.chars ≤ longest_line
  pub digital : spells 16 l.chars ≡ true
  pub ended : l.fed ≡ true

pub reading : (l : Line) → line_refusal l ≡ accepted → Reads l
reading l h = by-content (read_line l) refl h
  where
    by-content : (r : LineContent) → read_line l ≡ r → content_refusal r ≡ accepted → Reads l
    by-content (carries f) e k = let a = read-accepted l f e in
        record { few = a.short; digital = a.digital; ended = a.ended }
    by-content (no_frame n) e k = let b = (refused-number l n e).0 in absurd (omega arith)

-- a line is refused with a small number
pub refusal-small : (l : Line) → line_refusal l < 4
refusal-small l = by-content (read_line l) refl
  where
    by-content : (r : LineContent) → read_line l ≡ r → content_refusal r < 4
    by-content (carries f) e = omega arith
    by-content (no_frame n) e = (refused-number l n e).1

-- it is not altered
same_line : (l : Line) → mended_chars l.chars ≡ l.chars → mended_line l ≡ l
same_line l e = ap (λ (cs : List ℕ). record { chars = cs; fed = l.fed }) e

reads-unaltered : (l : Line) → line_refusal l ≡ accepted → (mended_line l ≡ l) × (altered_by l.chars ≡ 0)
reads-unaltered l h = let d = digits-unaltered l.chars (reading l h).digital in (same_line l d.0, d.1)

-- ## What becomes of a line

module _ (l : Line) where
  pub fate-long : longest_mended < length l.chars → fate_of l ≡ dropped malformed
  unfolding fate_of
  fate-long h = rw (lt-ltb longest_mended (length l.chars) h)

  pub fate-open : length l.chars ≤ longest_mended → l.fed ≡ false → fate_of l ≡ dropped not_hex
  unfolding fate_of
  fate-open h e = rw (le-ltb longest_mended (length l.chars) h, e)

  -- of a line without a feed nothing is left
  pub open-dropped : l.fed ≡ false → lines_left l ≡ []
  open-dropped e = by-test (nat_lt longest_mended (length l.chars)) refl
    where
      by-test : (t : Bool) → nat_lt longest_mended (length l.chars) ≡ t → lines_left l ≡ []
      by-test true h = rw (fate-long (ltb-true longest_mended (length l.chars) h))
      by-test false h = rw (fate-open (ltb-false longest_mended (length l.chars) h) e)

  -- one that reads as it stands
  pub fate-kept : line_refusal l ≡ accepted → fate_of l ≡ kept
  unfolding fate_of
  fate-kept h =
      let r = reading l h in
      let few = r.few in
      let short : length l.chars ≤ longest_mended = omega arith in
      rw (eq-eqb (line_refusal l) accepted h, le-ltb longest_mended (length l.chars) short, r.ended)

  module _ (short : length l.chars ≤ longest_mended) (fed : l.fed ≡ true) where
    fate-other : (line_refusal l ≢ accepted)
        → fate_of l ≡ (if nat_eq (line_refusal (mended_line l)) accepted then mended (altered_by l.chars)
        else dropped (line_refusal (mended_line l)))
    unfolding fate_of
    fate-other unread = rw (ne_eqb (line_refusal l) accepted unread, le-ltb longest_mended (length l.chars) short, fed)

    pub fate-dropped : (n : ℕ) → line_refusal (mended_line l) ≡ n → (n ≢ accepted) → fate_of l ≡ dropped n
    fate-dropped n e other =
        let not-kept : line_refusal l ≡ accepted → ⊥ =
        λ h. other (sym e ∙ ap line_refusal (reads-unaltered l h).0 ∙ h) in
        fate-other not-kept ∙ rw (e, ne_eqb n accepted other)

    pub fate-mended : line_refusal (mended_line l) ≡ accepted → (altered_by l.chars ≢ 0)
        → fate_of l ≡ mended (altered_by l.chars)
    fate-mended e some = fate-other (λ h. some (reads-unaltered l h).1)
        ∙ rw (eq-eqb (line_refusal (mended_line l)) accepted e)

    pub fate-same : line_refusal (mended_line l) ≡ accepted → altered_by l.chars ≡ 0
        → (fate_of l ≡ kept) × (mended_line l ≡ l)
    fate-same e none =
        let one = same_line l (unaltered-same l.chars none) in
        (fate-kept (ap line_refusal (sym one) ∙ e), one)

-- ## The ends of a call on a line

-- where what is left of a line fits, its report is told; of a line without a feed nothing is left
pub report-told : (l : Line) (out : List ℕ) (at : ℕ) → at + length (mended_bytes l) ≤ length out
    → (line_mended l out at).report ≡ report_byte l
report-told l out at room = rw (lay-fits out at (mended_bytes l) room).0

pub open_told : (l : Line) (out : List ℕ) (at : ℕ) → l.fed ≡ false → at ≤ length out
    → (line_mended l out at).report ≡ report_byte l
unfolding lines_bytes
open_told l out at e room =
    let none = ap (λ (ls : List Line). length (lines_bytes ls)) (open-dropped l e) in
    report-told l out at (omega arith)

-- the reader's refusal of a line that is found
pub answer-refusal : (r : LineContent) (next : ℕ) → (line_answer_of (found r next)).refusal ≡ content_refusal r
answer-refusal (carries f) next = refl
answer-refusal (no_frame n) next = refl

module _ (l : Line) (out : List ℕ) (at : ℕ) where
  by-fate : (o : Fate) → fate_of l ≡ o → (text : List ℕ) → text ≡ lines_bytes (left l o)
      → (reported (fate_byte o) (lay_answer out at text) ≡ line_mended l out at)
      × (lay_leaves out at text ≡ lay_leaves out at (mended_bytes l))
  by-fate o e text t = rw (e, t) (refl, refl)

  pub line-dropped : (n : ℕ) → fate_of l ≡ dropped n
      → (reported (32 + n) (lay_answer out at []) ≡ line_mended l out at)
      × (lay_leaves out at [] ≡ lay_leaves out at (mended_bytes l))
  unfolding lines_bytes
  line-dropped n e = by-fate (dropped n) e [] refl

  -- a line that reads once mended
  module _ (short : length l.chars ≤ longest_mended) (fed : l.fed ≡ true) (reads : line_refusal (mended_line l)
      ≡ accepted) where
    one_line : (cs : List ℕ) → cs ++ (line_feed ∷ []) ≡ lines_bytes (record { chars = cs; fed = l.fed } ∷ [])
    unfolding lines_bytes
    one_line cs = rw (fed, append-nil (cs ++ (line_feed ∷ [])))

    pub line-written : let text = mended_chars l.chars ++ (line_feed ∷ []) in let by = altered_by l.chars in
        (reported (if nat_eq by 0 then 0 else 16 + by) (lay_answer out at text) ≡ line_mended l out at)
        × (lay_leaves out at text ≡ lay_leaves out at (mended_bytes l))
    line-written = by-test (altered_by l.chars == 0) refl
      where
        by-test : (t : Bool) → (altered_by l.chars == 0) ≡ t → let text =
            mended_chars l.chars ++ (line_feed ∷ []) in
            (reported (if t then 0 else 16 + altered_by l.chars) (lay_answer out at text) ≡ line_mended l out at)
            × (lay_leaves out at text ≡ lay_leaves out at (mended_bytes l))
        by-test true e =
            let o = fate-same l short fed reads (eqb-true (altered_by l.chars) 0 e) in
            by-fate kept o.0 (mended_chars l.chars ++ (line_feed ∷ [])) (one_line (mended_chars l.chars)
            ∙ ap (λ (m : Line). lines_bytes (m ∷ [])) o.1)
        by-test false e =
            by-fate (mended (altered_by l.chars))
            (fate-mended l short fed reads (eqb-false (altered_by l.chars) 0 e)) (mended_chars l.chars
            ++ (line_feed ∷ []))
            (one_line (mended_chars l.chars))
