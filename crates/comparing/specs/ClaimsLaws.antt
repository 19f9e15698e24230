-- Where two recordings part, by the cases of what is left of each behind the lines that they share.
--     parted                 the claim
use Rattle.std.specs.Prelude.{ℕ, ◌+◌, ◌-◌, ◌<◌, ◌≤◌, ◌≡◌, refl, take}
use Rattle.std.proofs.Common.{sym, ap, ◌∙◌, length-drop, take_all}
use mathlib.Core.List.{List, [], ◌∷◌, ◌++◌}
use native.Mathlib.Omega.{arith}
use Rattle.std.proofs.Math.ListN.{length, drop, drop_of_length-le}
use Rattle.basic_laws.specs.SameLaws.{alike-within, alike-parts}
use Rattle.text.specs.Lines.{Line, lines_of, lines_bytes, same_line}
use Rattle.text.specs.LinesLaws.{lines-bytes, lines-behind, bytes-parted, same-line-itself}
use Rattle.comparing.specs.declared.Side.TheVariants.{Reference, Other}
use Rattle.comparing.specs.Departure.{shared_lines, parted_at, departure_of, recording_of, part_of}
use Rattle.comparing.specs.DepartureLaws.{front_same}
use Rattle.comparing.specs.Claims.{Parted, PartClaim}

module _ (reference other : List ℕ) where
  abbrev n : ℕ
  n = shared_lines reference other

  -- the side and the line, by what is left of each
  on-reference : (ls ms : List Line) (at : ℕ) → 0 < length ls
      → ((parted_at n at ls ms).side ≡ Reference) × ((parted_at n at ls ms).line ≡ n + 1)
  on-reference [] ms at h = absurd (omega arith)
  on-reference (l ∷ ls) ms at h = (refl, refl)

  on-other : (ls ms : List Line) (at : ℕ) → length ls ≡ 0 → 0 < length ms
      → ((parted_at n at ls ms).side ≡ Other) × ((parted_at n at ls ms).line ≡ n + 1)
  on-other [] [] at e h = absurd (omega arith)
  on-other [] (m ∷ ms) at e h = (refl, refl)
  on-other (l ∷ ls) ms at e h = absurd (omega arith)

  on-neither : (ls ms : List Line) (at : ℕ) → length ls ≡ 0 → length ms ≡ 0
      → ((parted_at n at ls ms).side ≡ Reference) × ((parted_at n at ls ms).line ≡ 0)
  on-neither [] [] at e h = (refl, refl)
  on-neither [] (m ∷ ms) at e h = absurd (omega arith)
  on-neither (l ∷ ls) ms at e h = absurd (omega arith)

  same_place : (ls ms : List Line) (at : ℕ) → (parted_at n at ls ms).place ≡ at
  same_place [] [] at = refl
  same_place [] (m ∷ ms) at = refl
  same_place (l ∷ ls) ms at = refl

  left : (s : List ℕ) → length (drop n (lines_of s)) ≡ length (lines_of s) - n
  left s = length-drop n (lines_of s)

  -- where all lines of both are shared, the recordings are one
  same-recordings : length (lines_of reference) ≡ n → length (lines_of other) ≡ n → reference ≡ other
  same-recordings a b =
      let whole-reference : take n (lines_of reference) ≡ lines_of reference =
      take_all n (lines_of reference) (omega arith) in
      let whole-other : take n (lines_of other) ≡ lines_of other = take_all n (lines_of other) (omega arith) in
      let lines : lines_of reference ≡ lines_of other = sym whole-reference ∙ front_same reference other ∙ whole-other in
      sym (lines-bytes reference) ∙ ap lines_bytes lines ∙ lines-bytes other

  -- the bytes of the shared lines and the part, on either side
  put-together : (ls ms : List Line) (at : ℕ) → let side = (parted_at n at ls ms).side in
      lines_bytes (take n (lines_of reference)) ++ lines_bytes (drop n (lines_of (recording_of side reference other)))
      ≡ recording_of side reference other
  put-together [] [] at = sym (bytes-parted reference n)
  put-together [] (m ∷ ms) at = rw (front_same reference other) (sym (bytes-parted other n))
  put-together (l ∷ ls) ms at = sym (bytes-parted reference n)

  -- both have ended
  all-shared : length (lines_of reference) ≡ n → length (lines_of other) ≡ n → let d = departure_of reference other in
      (reference ≡ other) × (d.side ≡ Reference) × (d.line ≡ 0) × (part_of reference other ≡ [])
  unfolding departure_of lines_bytes
  all-shared e h =
      let a = left reference in
      let b = left other in
      let at = length (lines_bytes (take n (lines_of reference))) in
      let d = on-neither (drop n (lines_of reference)) (drop n (lines_of other)) at (omega arith) (omega arith) in
      let past : length (lines_of reference) ≤ n = omega arith in
      let none : drop n (lines_of reference) ≡ [] = drop_of_length-le (lines_of reference) past in
      (same-recordings e h, d.0, d.1, rw d.0 (ap lines_bytes none))

pub parted : PartClaim
unfolding departure_of
parted reference other =
    let n = shared_lines reference other in
    let ls = drop n (lines_of reference) in
    let ms = drop n (lines_of other) in
    let at = length (lines_bytes (take n (lines_of reference))) in
    let a = left reference other reference in
    let b = left reference other other in
    record {
      within = alike-within same_line (lines_of reference) (lines_of other);
      before = front_same reference other;
      next = λ l m ls' ms' d e k. alike-parts same_line same-line-itself (lines_of reference) (lines_of other) l m ls' ms'
          d e k;
      goes_on = λ h. on-reference reference other ls ms at (omega arith);
      ended = λ e h. on-other reference other ls ms at (omega arith) (omega arith);
      equal = all-shared reference other;
      lines = lines-behind (recording_of (parted_at n at ls ms).side reference other) n;
      whole = put-together reference other ls ms at;
      place = same_place reference other ls ms at;
    }

-- the claim of what is the part
pub parted-by : (reference other part : List ℕ) → part ≡ part_of reference other
    → Parted reference other (shared_lines reference other) (departure_of reference other) part
parted-by reference other part e = rw e (parted reference other)
