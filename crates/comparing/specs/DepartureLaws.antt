-- Two recordings walked line by line, and each way in which the walk can end, as the definition has it; where the part
-- begins.
--     Walked ..              the walk's invariant
use Rattle.std.specs.Prelude.{ℕ, suc, ◌+◌, ◌-◌, ◌<◌, ◌≤◌, ◌≡◌, refl, Bool, true, false, not, ◌&&◌, List, [], ◌∷◌, ltb, take, drop}
use Rattle.std.proofs.Common.{sym, ap, subst, ◌∙◌, drop-drop}
use Rattle.std.specs.Bool.{beq}
use native.Mathlib.Omega.{arith}
use Rattle.std.proofs.lemmas.Bool.{not-true, not-false}
use Rattle.std.proofs.Math.ListN.{length}
use Rattle.basic_laws.specs.Places.{part-all}
use Rattle.basic_laws.specs.Same.{same, alike}
use Rattle.basic_laws.specs.SameLaws.{alike-more, alike-stop, alike-none, alike-ended, alike-front}
use Rattle.text.specs.Lines.{Line, lines_of, lines_bytes, same_line, feed_at, first_line, width}
use Rattle.text.specs.LinesLaws.{line-by-end, lines_next, lines-done, lines-place, lines_from, lines-within, line-ends}
use Rattle.text.specs.LinesLaws.{same-line-equal}
use Rattle.comparing.specs.declared.Side.{Side}
use Rattle.comparing.specs.declared.Side.TheVariants.{Reference, Other}
use Rattle.comparing.specs.declared.Departure.{Departure}
use Rattle.comparing.specs.Departure.{shared_lines, parted_at, departure_of, recording_of, part_of}

-- ## The walk

-- n lines are the same in both, and the lines behind them begin at a place
pub record Walked (reference other : List ℕ) (at n : ℕ) : Type 0 where
  pub within : (at ≤ length reference) × (at ≤ length other)
  pub few : n ≤ at
  pub left : lines_of (drop at reference) ≡ drop n (lines_of reference)
  pub left_other : lines_of (drop at other) ≡ drop n (lines_of other)
  pub count : n + alike same_line (lines_of (drop at reference)) (lines_of (drop at other)) ≡ shared_lines reference other

pub walk_start : (reference other : List ℕ) → Walked reference other 0 0
walk_start reference other = record {
  within = (omega arith, omega arith);
  few = omega arith;
  left = refl;
  left_other = refl;
  count = omega arith;
}

-- one line less is left where the first line is taken off
one_less : (s : List ℕ) (at n : ℕ) → at < length s → lines_of (drop at s) ≡ drop n (lines_of s)
    → lines_of (drop (at + width (first_line (drop at s))) s) ≡ drop (n + 1) (lines_of s)
one_less s at n h e = ap (drop 1) (sym (lines_next s at h) ∙ e) ∙ drop-drop 1 n (lines_of s)

module _ (reference other : List ℕ) (at n : ℕ) (w : Walked reference other at n) where
  -- where no line more is the same in both, the answer goes by what is left of each
  walk_ends : alike same_line (lines_of (drop at reference)) (lines_of (drop at other)) ≡ 0
      → parted_at n at (lines_of (drop at reference)) (lines_of (drop at other)) ≡ departure_of reference other
  unfolding departure_of
  walk_ends none =
      let c = w.count in
      let all : shared_lines reference other ≡ n = omega arith in
      rw (all, lines-place reference n at w.within.0 w.left, w.left, w.left_other)

  -- the other has ended
  pub walk-other-ended : at < length reference → length other ≤ at
      → record { side = Reference; place = at; line = n + 1 } ≡ departure_of reference other
  walk-other-ended before h =
      let none = ap (alike same_line (lines_of (drop at reference))) (lines-done other at h)
      ∙ alike-ended same_line (lines_of (drop at reference)) in
      rw (← walk_ends none, lines_next reference at before)

  -- the reference has ended, and the other goes on or not
  module _ (h : length reference ≤ at) where
    none_left : alike same_line (lines_of (drop at reference)) (lines_of (drop at other)) ≡ 0
    none_left = ap (λ (ls : List Line). alike same_line ls (lines_of (drop at other))) (lines-done reference at h)
        ∙ alike-none same_line (lines_of (drop at other))

    pub walk-ended : at < length other → record { side = Other; place = at; line = n + 1 } ≡ departure_of reference other
    walk-ended before = rw (← walk_ends none_left, lines-done reference at h, lines_next other at before)

    pub walk-equal : length other ≤ at → record { side = Reference; place = at; line = 0 } ≡ departure_of reference other
    walk-equal k = rw (← walk_ends none_left, lines-done reference at h, lines-done other at k)

  module _ (before : at < length reference) (before-other : at < length other) where
    abbrev line : Line
    line = first_line (drop at reference)

    abbrev line_other : Line
    line_other = first_line (drop at other)

    -- the next line is the same in both
    pub walk-on : same_line line line_other ≡ true → (next : ℕ) → next ≡ at + width line
        → Walked reference other next (n + 1)
    walk-on e next place =
        let lines_equal : line ≡ line_other = same-line-equal line line_other e in
        let size = line-ends reference at before in
        let size-other = line-ends other at before-other in
        let wide : width line ≡ width line_other = ap width lines_equal in
        let some = size.0 in
        let most = size.1 in
        let most_other = size-other.1 in
        let f = w.few in
        let on = one_less reference at n before w.left in
        let on-other = rw (← wide) at (one_less other at n before-other w.left_other) in
        let more = alike-more same_line line line_other (lines_of (drop (at + width line) reference))
        (lines_of (drop (at + width line) other)) e in
        let next-other = ap (λ (k : ℕ). line_other ∷ lines_of (drop (at + k) other)) (sym wide) in
        let both : alike same_line (lines_of (drop at reference)) (lines_of (drop at other))
        ≡ suc (alike same_line (lines_of (drop (at + width line) reference))
        (lines_of (drop (at + width line) other))) =
        rw (lines_next reference at before, lines_next other at before-other ∙ next-other) more in
        let c = w.count in
        rw place record {
          within = (omega arith, omega arith);
          few = omega arith;
          left = on;
          left_other = on-other;
          count = omega arith;
        }

    -- the next line is another
    pub walk-differs : same_line line line_other ≡ false
        → record { side = Reference; place = at; line = n + 1 } ≡ departure_of reference other
    walk-differs e =
        let none : alike same_line (lines_of (drop at reference)) (lines_of (drop at other)) ≡ 0 =
        rw (lines_next reference at before, lines_next other at before-other)
        (alike-stop same_line line line_other (lines_of (drop (at + width line) reference))
        (lines_of (drop (at + width line_other) other)) e) in
        rw (← walk_ends none, lines_next reference at before)

-- ## Two lines, by where they end

module _ (reference other : List ℕ) (at e e-other : ℕ) (h : at ≤ length reference) (h-other : at ≤ length other)
    (ends : e ≡ at + feed_at (drop at reference)) (ends-other : e-other ≡ at + feed_at (drop at other)) where
  by-ends : same_line (first_line (drop at reference)) (first_line (drop at other))
      ≡ (beq (ltb e (length reference)) (ltb e-other (length other))
      && same (take (e - at) (drop at reference)) (take (e-other - at) (drop at other)))
  by-ends =
      ap (λ (l : Line). same_line l (first_line (drop at other))) (line-by-end reference at e h ends).1
      ∙ ap (same_line record { chars = take (e - at) (drop at reference); fed = ltb e (length reference) })
      (line-by-end other at e-other h-other ends-other).1

  -- one has a feed and the other has none
  pub lines-apart : not (beq (ltb e (length reference)) (ltb e-other (length other))) ≡ true
      → false ≡ same_line (first_line (drop at reference)) (first_line (drop at other))
  lines-apart d = sym (by-ends ∙ rw (not-true (beq (ltb e (length reference)) (ltb e-other (length other))) d))

  -- both or neither has one: the characters decide
  pub lines-by-characters : not (beq (ltb e (length reference)) (ltb e-other (length other))) ≡ false → (t : Bool)
      → t ≡ same (take (e - at) (drop at reference)) (take (e-other - at) (drop at other))
      → t ≡ same_line (first_line (drop at reference)) (first_line (drop at other))
  lines-by-characters d t k = k ∙ sym (by-ends
      ∙ rw (not-false (beq (ltb e (length reference)) (ltb e-other (length other))) d))

-- ## The part

module _ (reference other : List ℕ) where
  abbrev n : ℕ
  n = shared_lines reference other

  -- as many lines are in both, and take the same bytes there
  pub front_same : take n (lines_of reference) ≡ take n (lines_of other)
  front_same = alike-front same_line same-line-equal (lines_of reference) (lines_of other)

  -- the part is what stands in the recording of its side from its place on
  pub part-from : let d = departure_of reference other in
      (d.place ≤ length (recording_of d.side reference other))
      × (drop d.place (recording_of d.side reference other) ≡ part_of reference other)
  unfolding departure_of
  part-from = by_left (drop n (lines_of reference)) (drop n (lines_of other))
    where
      of-reference : (length (lines_bytes (take n (lines_of reference))) ≤ length reference)
          × (drop (length (lines_bytes (take n (lines_of reference)))) reference
          ≡ lines_bytes (drop n (lines_of reference)))
      of-reference = (lines-within reference n, lines_from reference n)

      of_other : (length (lines_bytes (take n (lines_of reference))) ≤ length other)
          × (drop (length (lines_bytes (take n (lines_of reference)))) other ≡ lines_bytes (drop n (lines_of other)))
      of_other = rw front_same (lines-within other n, lines_from other n)

      by_left : (ls ms : List Line) → let d = parted_at n (length (lines_bytes (take n (lines_of reference)))) ls ms in
          (d.place ≤ length (recording_of d.side reference other))
          × (drop d.place (recording_of d.side reference other)
          ≡ lines_bytes (drop n (lines_of (recording_of d.side reference other))))
      by_left [] [] = of-reference
      by_left [] (m ∷ ms) = of_other
      by_left (l ∷ ls) ms = of-reference

-- as code takes it, by the side that was answered
module _ (reference other : List ℕ) (d : Departure) (answered : d ≡ departure_of reference other) where
  pub from-side : (side : Side) → d.side ≡ side → let s = recording_of side reference other in
      (d.place ≤ length s) × (take (length s - d.place) (drop d.place s) ≡ part_of reference other)
  from-side side e =
      let chosen = recording_of side reference other in
      let within = (part-from reference other).0 in
      let rest = (part-from reference other).1 in
      let there : (departure_of reference other).side ≡ side = ap (λ (x : Departure). x.side) (sym answered) ∙ e in
      let place : d.place ≡ (departure_of reference other).place = ap (λ (x : Departure). x.place) answered in (
        rw place (subst (λ (x : Side). (departure_of reference other).place ≤ length (recording_of x reference other))
            there within),
        part-all chosen d.place ∙ rw place (subst
            (λ (x : Side). drop (departure_of reference other).place (recording_of x reference other)
            ≡ part_of reference other) there rest),
      )
