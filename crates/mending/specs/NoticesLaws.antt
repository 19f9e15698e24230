-- What is told of the lines of a report, line by line as a loop lays it, and of a report in two parts.
--     notices-append         what is told of two parts of a report, one after the other, is what is told of the whole
--     notices-wrap           the lines before may be counted in 64 bits
use Rattle.std.specs.Prelude.{◌≡◌, ℕ, suc, ◌+◌, ◌*◌, ◌/◌, ◌%◌, ◌^◌, ◌<◌, ◌≤◌, true, List, [], ◌∷◌, ◌++◌, length, take, slice_index, slice_index_or, refl}
use Rattle.std.proofs.Common.{sym, ◌∙◌, append_assoc, append-nil, le-div_iff_mul-le, add-one, le-leb, lit<, length-append, take-suc, take_all}
use Rattle.std.proofs.Math.Path.{ap}
use native.Mathlib.Omega.{arith}
use Rattle.std.proofs.lemmas.Bool.{lt-leb}
use Rattle.std.proofs.Math.Seq.{length-take-le}
use Rattle.basic_laws.specs.Laid.{laid}
use Rattle.basic_laws.specs.LaidLaws.{laid_none, laid-length, laid-read}
use Rattle.refusals.specs.Refusals.{accepted, no_room}
use Rattle.text.specs.declared.laying.Written.{Written}
use Rattle.text.specs.Laying.{lay_answer, lay_leaves}
use Rattle.text.proofs.LayingLaws.{lay-fits, lay-behind}
use Rattle.mending.specs.declared.answers.Noticed.{Noticed}
use Rattle.mending.specs.NoticeLaws.{notice-most}
use Rattle.mending.specs.Notice.{notice_of, line_number, notices_of, most_told, notices_room, lines_after}
use Rattle.mending.specs.Notice.{notices_answer, notices_leaves}

-- ## A report in parts

pub notices-append : (n : ℕ) (r t : List ℕ) → notices_of n (r ++ t) ≡ notices_of n r ++ notices_of (n + length r) t
unfolding notices_of
notices-append n [] t = let e : n + 0 ≡ n = omega arith in rw e
notices-append n (b ∷ r) t =
    let e : n + suc (length r) ≡ n + 1 + length r = omega arith in
    rw (e, notices-append (n + 1) r t) (sym (append_assoc (notice_of (line_number n) b) (notices_of (n + 1) r)
    (notices_of (n + 1 + length r) t)))

-- numbers that agree in 64 bits number the lines alike
same_numbers : (r : List ℕ) (n m : ℕ) → n % 2 ^ 64 ≡ m % 2 ^ 64 → notices_of n r ≡ notices_of m r
unfolding notices_of
same_numbers [] n m e = refl
same_numbers (b ∷ r) n m e =
    let here : line_number n ≡ line_number m = omega arith in
    let behind : (n + 1) % 2 ^ 64 ≡ (m + 1) % 2 ^ 64 = omega arith in
    rw (here, same_numbers r (n + 1) (m + 1) behind)

pub notices-wrap : (r : List ℕ) (n : ℕ) → notices_of (n % 2 ^ 64) r ≡ notices_of n r
notices-wrap r n = same_numbers r (n % 2 ^ 64) n (omega arith)

-- ## Line by line

-- the loop's invariant: what is told of the first i lines is laid
pub record Noting (before : ℕ) (report out₀ : List ℕ) (i number written : ℕ) (out : List ℕ) : Type 0 where
  pub within : i ≤ length report
  pub size : length out ≡ length out₀
  pub count : number ≡ (before + i) % 2 ^ 64
  pub place : written ≡ length (notices_of before (take i report))
  pub few : written ≤ most_told * i
  pub text : out ≡ laid out₀ 0 (notices_of before (take i report))

pub noting-start : (before : ℕ) (report out : List ℕ) → before < 2 ^ 64 → Noting before report out 0 before 0 out
unfolding notices_of
noting-start before report out h = record {
  within = omega arith;
  size = refl;
  count = omega arith;
  place = refl;
  few = omega arith;
  text = laid_none out 0;
}

module _ (before : ℕ) (report out₀ : List ℕ) (room : most_told * length report ≤ length out₀) (i number written : ℕ)
    (out : List ℕ) (s : Noting before report out₀ i number written out) where
  -- the line at i
  module _ (h : i < length report) (next : ℕ) (counted : next
      ≡ (number + 1) % 2 ^ 64) (small : slice_index_or report i 0 < 256) where
    abbrev told : List ℕ
    told = notice_of next (slice_index report i)

    one_more : notices_of before (take (i + 1) report) ≡ notices_of before (take i report) ++ told
    unfolding notices_of
    one_more =
        let c = s.count in
        let l = length-take-le i report s.within in
        let e : line_number (before + length (take i report)) ≡ next = omega arith in
        let last : take (i + 1) report ≡ take i report ++ (slice_index report i ∷ []) =
        rw (add-one i) (take-suc report i 0 h) in
        let there : notices_of (before + length (take i report)) (slice_index report i ∷ []) ≡ told =
        rw e (append-nil told) in
        ap (notices_of before) last ∙ notices-append before (take i report) (slice_index report i ∷ [])
        ∙ ap (λ (x : List ℕ). notices_of before (take i report) ++ x) there

    pub noting-more : (w : Written) (out' : List ℕ) → w ≡ lay_answer out written told → out' ≡ lay_leaves out written told
        → Noting before report out₀ (i + 1) next w.next out'
    noting-more w out' a b =
        let c = s.count in
        let z = s.size in
        let f = s.few in
        let p = s.place in
        let short = notice-most next (slice_index report i) (omega arith) small in
        let fits : written + length told ≤ length out = omega arith in
        let done = lay-fits out written told fits in
        let place : w.next ≡ written + length told = ap (λ (v : Written). v.next) (a ∙ done.0) in
        let both = ap length one_more ∙ length-append (notices_of before (take i report)) told in
        let text : out' ≡ laid out₀ 0 (notices_of before (take (i + 1) report)) =
        b ∙ ap (λ (d : List ℕ). lay_leaves d written told) s.text
        ∙ lay-behind out₀ 0 (notices_of before (take i report)) told written (omega arith) (omega arith)
        ∙ ap (laid out₀ 0) (sym one_more) in
        record {
          within = omega arith;
          size = rw b (rw done.1 (laid-length out written told fits) ∙ z);
          count = omega arith;
          place = omega arith;
          few = omega arith;
          text = text;
        }

  -- no line is left
  pub noting-done : length report ≤ i →
      let r : Noticed = record { refusal = accepted; written = written; lines = number } in
      length report ≤ length out₀ / most_told → ((r ≡ notices_answer before report out₀) × (written ≤ length out₀))
      × (out ≡ notices_leaves before report out₀)
  noting-done h k =
      let w = s.within in
      let f = s.few in
      let all : take i report ≡ report = take_all i report h in
      let at-end : i ≡ length report = omega arith in
      let place : written ≡ length (notices_of before report) =
      s.place ∙ ap (λ (r : List ℕ). length (notices_of before r)) all in
      let count : number ≡ (before + length report) % 2 ^ 64 =
      s.count ∙ ap (λ (n : ℕ). (before + n) % 2 ^ 64) at-end in
      rw (le-leb (length report) (length out₀ / most_told) k) (
        (rw (place, count) refl, omega arith),
        s.text ∙ ap (λ (r : List ℕ). laid out₀ 0 (notices_of before r)) all,
      )

-- refused without room
pub notices-short : (before : ℕ) (report out : List ℕ) → length out / most_told < length report
    → ((record { refusal = no_room; written = 0; lines = 0 } ≡ notices_answer before report out) × (0 ≤ length out))
    × (out ≡ notices_leaves before report out)
notices-short before report out h = rw (lt-leb (length report) (length out / most_told) h) ((refl, omega arith), refl)

-- with room for all that can be told, a call lays what is told of the lines of its report, and counts them
module _ (before : ℕ) (report out : List ℕ) (wide : most_told * length report ≤ length out) (r : Noticed) (e : r
    ≡ notices_answer before report out) where
  there : notices_room before report out ≡ true
  there = le-leb (length report) (length out / most_told) ((le-div_iff_mul-le (lit< tt)).1 (omega arith))

  pub notices-told : (after : List ℕ) → after ≡ notices_leaves before report out
      → take r.written after ≡ notices_of before report
  notices-told after k =
      let count : r.written ≡ length (notices_of before report) = ap (λ (n : Noticed). n.written) e ∙ rw there refl in
      let laid-there : after ≡ laid out 0 (notices_of before report) = k ∙ rw there refl in
      rw (count, laid-there) (laid-read out 0 (notices_of before report) (omega arith))

  pub notices-counted : r.lines ≡ lines_after before report
  notices-counted = ap (λ (n : Noticed). n.lines) e ∙ rw there refl
