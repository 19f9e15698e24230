-- The walk over the lines that have their feed is two walks of `pieces`, one of the text and one of the report.
--     Through s p            how far the lines that have their feed go
use Rattle.std.specs.Prelude.{◌≡◌, ℕ, ◌+◌, ◌-◌, ◌<◌, ◌≤◌, min, Bool, true, false, List, [], ◌∷◌, ◌++◌, length, take, drop, ◌==◌, nat_le, refl}
use Rattle.std.proofs.Common.{sym, ◌∙◌, arith, le-leb, length-append, length-drop, drop_of_length-le}
use Rattle.std.proofs.Math.Path.{ap}
use Rattle.std.proofs.Math.Bool.{and-false}
use mathlib.Core.List.{append-nil}
use Rattle.std.proofs.lemmas.Bool.{lt-leb}
use Rattle.std.proofs.lemmas.List.{length-map}
use Rattle.std.specs.Prelude.{if◌then◌else◌}
use Rattle.basic_laws.specs.Laid.{laid}
use Rattle.basic_laws.specs.LaidLaws.{laid_none, laid-read}
use Rattle.refusals.specs.Refusals.{accepted, no_room}
use Rattle.text.specs.Lines.{Line, line_feed, longer, lines_of, lines_bytes, feed_at}
use Rattle.text.specs.declared.laying.Written.{Written}
use Rattle.text.specs.Laying.{lay_answer, lay_leaves}
use Rattle.text.proofs.LayingLaws.{lay-behind}
use Rattle.pieces.specs.declared.Carried.{Carried}
use Rattle.pieces.specs.Carried.{carried_in, most_carried}
use Rattle.pieces.specs.Pieces.{say_all, said, whole, rest, said_whole, carried}
use Rattle.pieces.specs.Cuts.{parts, rest_plain, alone-open}
use Rattle.pieces.specs.Walk.{running-start, here-room, here-within, running_more, running-done}
use Rattle.pieces.specs.Walk.{running-open}
use Rattle.mending.specs.Mending.{mended_bytes, line_mended, mended_text, report_byte, reports}
use Rattle.mending.specs.Claims.{most_held_of_mending, report_said}
use Rattle.mending.proofs.ClaimsLaws.{mended-short, report-short, reports-said}
use Rattle.mending.specs.LineLaws.{open-dropped, report-told}
use Rattle.mending.specs.declared.texts.LinesMended.{LinesMended}
use Rattle.mending.specs.declared.texts.PieceMended.{PieceMended}
use Rattle.mending.specs.declared.texts.TextMended.{TextMended}
use Rattle.mending.specs.MendingText.{text_room, text_answer, text_written, text_reported, TextWithin, PieceAnswer}
use Rattle.mending.specs.MendingText.{piece_written, piece_reported}
use Rattle.mending.specs.Laws.{MendingWalk, Through}

pub walking_start : (s out report : List ℕ) → MendingWalk s out report 0 0 0 out report
walking_start s out report = record {
  text = running-start mended_bytes 1 s out;
  noted = running-start report_said 1 s report;
}

-- the lines that have their feed are some of the lines
pub whole-fewer : (ls : List Line) → length (whole ls) ≤ length ls
unfolding whole
whole-fewer [] = omega arith
whole-fewer (l ∷ ls) = by-test l.fed (whole-fewer ls)
  where
    by-test : (t : Bool) → length (whole ls) ≤ length ls → length (if t then l ∷ whole ls else []) ≤ length (l ∷ ls)
    by-test true h = omega arith
    by-test false h = omega arith

-- one byte is reported for each line
pub notes-length : (ls : List Line) → length (say_all report_said ls) ≡ length ls
unfolding say_all
notes-length [] = refl
notes-length (l ∷ ls) = let i = notes-length ls in omega arith

module _ (s out₀ report₀ : List ℕ) (room : length s ≤ length out₀) (places : length (lines_of s) ≤ length report₀)
    (at written lines : ℕ) (out report : List ℕ)
    (w : MendingWalk s out₀ report₀ at written lines out report) where
  -- the line that ends at e, with its feed, has room for what is left of it, so that its report is told
  walking-room : (e : ℕ) → at < length s → at + feed_at (drop at s) ≡ e → e < length s
      → written + length (mended_bytes record { chars = take (e - at) (drop at s); fed = true }) ≤ length out
  walking-room e before ends fed = here-room mended_bytes 1 mended-short s out₀ at written out w.text e before ends
      fed (omega arith)

  pub walking-told : (e : ℕ) → at < length s → at + feed_at (drop at s) ≡ e → e < length s →
      let l : Line = record { chars = take (e - at) (drop at s); fed = true } in
      (line_mended l out written).report ≡ report_byte l
  walking-told e before ends fed = report-told record {
    chars = take (e - at) (drop at s);
    fed = true;
  } out written (walking-room e before ends fed)

  pub walking-more : (e : ℕ) → at < length s → at + feed_at (drop at s) ≡ e → e < length s →
      let l : Line = record { chars = take (e - at) (drop at s); fed = true } in
      (x : Written) (next : List ℕ) → x ≡ lay_answer out written (mended_bytes l)
      → next ≡ lay_leaves out written (mended_bytes l)
      → (y : Written) (noted : List ℕ) → y ≡ lay_answer report lines (report_byte l ∷ [])
      → noted ≡ lay_leaves report lines (report_byte l ∷ [])
      → MendingWalk s out₀ report₀ (e + 1) x.next y.next next noted
  walking-more e before ends fed x next p q y noted r t =
      let all_noted : length (said_whole report_said s) ≤ length report₀ = let a = notes-length (whole (lines_of s)) in
      let b = whole-fewer (lines_of s) in omega arith in
      let in-text = walking-room e before ends fed in
      let in-report = here-within report_said 1 report-short s report₀ at lines report w.noted e before ends fed
      all_noted in
      record {
        text = running_more mended_bytes 1 mended-short s out₀ at written out w.text e before ends fed in-text x
            next p q;
        noted = running_more report_said 1 report-short s report₀ at lines report w.noted e before ends fed in-report
            y noted r t;
      }

  -- no line with a feed is left
  abbrev Ended : Type 0
  Ended = Through s record { written = written; lines = lines; next = at }
      × ((out ≡ laid out₀ 0 (said_whole mended_bytes s)) × (report ≡ laid report₀ 0 (said_whole report_said s)))

  pub walking-done : length s ≤ at → Ended
  walking-done h =
      let a = running-done mended_bytes 1 s out₀ at written out w.text h in
      let b = running-done report_said 1 s report₀ at lines report w.noted h in
      (record { text = a.0; noted = b.0 }, (a.1, b.1))

  pub walking-open : (e : ℕ) → at < length s → at + feed_at (drop at s) ≡ e → length s ≤ e → Ended
  walking-open e before ends h =
      let a = running-open mended_bytes 1 s out₀ at written out w.text e before ends h in
      let b = running-open report_said 1 s report₀ at lines report w.noted e before ends h in
      (record { text = a.0; noted = b.0 }, (a.1, b.1))

-- ## Each way in which the calls end

-- nothing laid is nothing changed, with room or without
laid-nothing : (d : List ℕ) (at : ℕ) → lay_leaves d at [] ≡ d
laid-nothing d at = by-test (nat_le (at + 0) (length d))
  where
    by-test : (t : Bool) → (if t then laid d at [] else d) ≡ d
    by-test true = sym (laid_none d at)
    by-test false = refl

module _ (s out report : List ℕ) where
  pub text-short : length out < length s
      → ((record { refusal = no_room; written = 0; lines = 0 } ≡ text_answer s out report)
      × TextWithin out report record { refusal = no_room; written = 0; lines = 0 })
      × ((out ≡ text_written s out report) × (report ≡ text_reported s out report))
  text-short h = rw (lt-leb (length s) (length out) h) (
    (refl, record { text = omega arith; noted = omega arith }),
    (refl, refl),
  )

  pub report-few : length report < length (lines_of s)
      → ((record { refusal = no_room; written = 0; lines = 0 } ≡ text_answer s out report)
      × TextWithin out report record { refusal = no_room; written = 0; lines = 0 })
      × ((out ≡ text_written s out report) × (report ≡ text_reported s out report))
  report-few h = rw (
    lt-leb (length (lines_of s)) (length report) h,
    and-false (nat_le (length s) (length out)),
  ) (
    (refl, record { text = omega arith; noted = omega arith }),
    (refl, refl),
  )

  -- a piece for which there is no room
  module _ (none : text_room s out report ≡ false) (r : PieceMended)
      (e : (r.refusal ≡ no_room) × (r.written ≡ 0) × (r.lines ≡ 0) × (carried_in r.carried ≡ [])) where
    pub piece-none : PieceAnswer s out report r
        × ((out ≡ piece_written s out report) × (report ≡ piece_reported s out report))
    piece-none =
        let w = e.1 in
        let l = e.2 in (
          record {
            refusal = rw none e.0;
            written = rw none w;
            lines = rw none l;
            carries = rw none e.3;
            text-within = omega arith;
            noted-within = omega arith;
          },
          (rw none refl, rw none refl),
        )

  pub room-short : length out < length s → text_room s out report ≡ false
  room-short h = rw (lt-leb (length s) (length out) h) refl

  pub room-few : length report < length (lines_of s) → text_room s out report ≡ false
  room-few h = rw (lt-leb (length (lines_of s)) (length report) h) (and-false (nat_le (length s) (length out)))

  pub room-there : length s ≤ length out → length (lines_of s) ≤ length report → text_room s out report ≡ true
  room-there room places = rw (
    le-leb (length s) (length out) room,
    le-leb (length (lines_of s)) (length report) places,
  ) refl

  module _ (room : length s ≤ length out) (places : length (lines_of s) ≤ length report) (p : LinesMended)
      (through : Through s p) where
    -- what was written, and what was noted, is within the buffers
    written-within : p.written ≤ length out
    written-within = let few = through.text.few in let w = through.text.within in omega arith

    noted-within : (p.lines ≡ length (whole (lines_of s))) × (p.lines ≤ length report)
    noted-within =
        let a = notes-length (whole (lines_of s)) in
        let b = whole-fewer (lines_of s) in
        let c = through.noted.text in
        (omega arith, omega arith)

    pub piece-done : (c : Carried) → carried_in c ≡ take (min most_held_of_mending most_carried) (drop p.next s) →
        let r : PieceMended = record { refusal = accepted; written = p.written; lines = p.lines; carried = c } in
        PieceAnswer s out report r × ((laid out 0 (said_whole mended_bytes s) ≡ piece_written s out report)
        × (laid report 0 (said_whole report_said s) ≡ piece_reported s out report))
    piece-done c k =
        let e = room-there room places in
        let b = rw through.text.left at k in
        let lines = noted-within in (
          record {
            refusal = rw e refl;
            written = rw e through.text.text;
            lines = rw e lines.0;
            carries = rw e b;
            text-within = written-within;
            noted-within = lines.1;
          },
          (rw e refl, rw e refl),
        )

    -- what is said for the whole is that of the lines with a feed, and that of the rest
    no-rest : (say : Line → List ℕ) → rest (lines_of s) ≡ [] → said say s ≡ said_whole say s
    unfolding say_all lines_of
    no-rest say e = parts say s ∙ ap (λ (u : List ℕ). said_whole say s ++ said say u) e ∙ append-nil (said_whole say s)

    last_rest : (say : Line → List ℕ) → p.next < length s
        → said say s ≡ said_whole say s ++ say record { chars = drop p.next s; fed = false }
    last_rest say h =
        let u = drop p.next s in
        let some : 0 < length u = let l = length-drop p.next s in omega arith in
        let same = through.text.left in
        parts say s ∙ ap (λ (v : List ℕ). said_whole say s ++ said say v) (sym same)
        ∙ ap (λ (v : List ℕ). said_whole say s ++ v) (alone-open say u some (rw same (rest_plain s)))

    -- the answer to a whole text, by what is laid
    done : said mended_bytes s ≡ said_whole mended_bytes s → (lines : ℕ) → lines ≡ length (lines_of s)
        → (out' report' : List ℕ)
        → out' ≡ laid out 0 (said_whole mended_bytes s) → report' ≡ laid report 0 (said report_said s) →
        let r : TextMended = record { refusal = accepted; written = p.written; lines = lines } in
        ((r ≡ text_answer s out report) × TextWithin out report r)
        × ((out' ≡ text_written s out report) × (report' ≡ text_reported s out report))
    done same lines count out' report' text noted =
        let ok : TextWithin out report record { refusal = accepted; written = p.written; lines = lines } =
        record { text = written-within; noted = omega arith } in
        rw (
          le-leb (length s) (length out) room,
          le-leb (length (lines_of s)) (length report) places,
          ← reports-said (lines_of s),
          same,
        ) ((rw (through.text.text, count) refl, ok), (text, noted))

    -- every line had its feed
    pub text-done : length s ≤ p.next → (lines : ℕ) → lines ≡ length (lines_of s) → (out' report' : List ℕ)
        → out' ≡ laid out 0 (said_whole mended_bytes s) → report' ≡ laid report 0 (said_whole report_said s) →
        let r : TextMended = record { refusal = accepted; written = p.written; lines = lines } in
        ((r ≡ text_answer s out report) × TextWithin out report r)
        × ((out' ≡ text_written s out report) × (report' ≡ text_reported s out report))
    text-done h lines count out' report' text noted =
        let none : rest (lines_of s) ≡ [] = sym through.text.left ∙ drop_of_length-le s h in
        done (no-rest mended_bytes none) lines count out' report' text (noted
        ∙ ap (laid report 0) (sym (no-rest report_said none)))

    -- the last one had none: it is dropped, and reported
    module _ (h : p.next < length s) where
      abbrev last : Line
      last = record { chars = drop p.next s; fed = false }

      nothing_left : mended_bytes last ≡ []
      unfolding lines_bytes
      nothing_left = ap lines_bytes (open-dropped last refl)

      pub text-open : (lines : ℕ) → lines ≡ length (lines_of s) → (out₁ out' report₁ report' : List ℕ)
          → out₁ ≡ laid out 0 (said_whole mended_bytes s) → report₁ ≡ laid report 0 (said_whole report_said s)
          → out' ≡ lay_leaves out₁ p.written (mended_bytes last)
          → report' ≡ lay_leaves report₁ p.lines (report_said last) →
          let r : TextMended = record { refusal = accepted; written = p.written; lines = lines } in
          ((r ≡ text_answer s out report) × TextWithin out report r)
          × ((out' ≡ text_written s out report) × (report' ≡ text_reported s out report))
      text-open lines count out₁ out' report₁ report' text noted a b =
          let same : said mended_bytes s ≡ said_whole mended_bytes s =
          last_rest mended_bytes h ∙ ap (λ (x : List ℕ). said_whole mended_bytes s ++ x) nothing_left
          ∙ append-nil (said_whole mended_bytes s) in
          let stays : out' ≡ laid out 0 (said_whole mended_bytes s) =
          a ∙ ap (lay_leaves out₁ p.written) nothing_left ∙ laid-nothing out₁ p.written ∙ text in
          let all = last_rest report_said h in
          let size = ap length all ∙ length-append (said_whole report_said s) (report_said last) in
          let total = notes-length (lines_of s) in
          let place = through.noted.text in
          let more : report' ≡ laid report 0 (said report_said s) =
          b ∙ ap (λ (d : List ℕ). lay_leaves d p.lines (report_said last)) noted
          ∙ lay-behind report 0 (said_whole report_said s) (report_said last) p.lines (omega arith) (omega arith)
          ∙ ap (laid report 0) (sym all) in
          done same lines count out' report' stays more

-- ## A program that reads behind what is carried

front : (out x : List ℕ) → take (length x) (laid out 0 x) ≡ x
front out x = laid-read out 0 x (omega arith)

module _ (s out report : List ℕ) where
  -- with room for all that comes of a piece, its call lays what is left of its whole lines and the report on them, and
  -- carries over the rest
  module _ (there : text_room s out report ≡ true) where
    pub piece-said : (r : PieceMended) → PieceAnswer s out report r → (after : List ℕ)
        → after ≡ piece_written s out report → take r.written after ≡ said_whole mended_bytes s
    piece-said r answer after k =
        let count : r.written ≡ length (said_whole mended_bytes s) = answer.written ∙ rw there refl in
        let laid-there : after ≡ laid out 0 (said_whole mended_bytes s) = k ∙ rw there refl in
        rw (count, laid-there) (front out (said_whole mended_bytes s))

    pub piece-noted : (r : PieceMended) → PieceAnswer s out report r → (after : List ℕ)
        → after ≡ piece_reported s out report → take r.lines after ≡ said_whole report_said s
    piece-noted r answer after k =
        let count : r.lines ≡ length (said_whole report_said s) =
        answer.lines ∙ rw there (sym (notes-length (whole (lines_of s)))) in
        let laid-there : after ≡ laid report 0 (said_whole report_said s) = k ∙ rw there refl in
        rw (count, laid-there) (front report (said_whole report_said s))

    pub piece-carries : (r : PieceMended) → PieceAnswer s out report r
        → carried_in r.carried ≡ carried most_held_of_mending s
    piece-carries r answer = answer.carries ∙ rw there refl

    pub text-said : (r : TextMended) → r ≡ text_answer s out report → (after : List ℕ) → after ≡ text_written s out report
        → take r.written after ≡ mended_text s
    text-said r e after k =
        let count : r.written ≡ length (mended_text s) = ap (λ (t : TextMended). t.written) e ∙ rw there refl in
        let laid-there : after ≡ laid out 0 (mended_text s) = k ∙ rw there refl in
        rw (count, laid-there) (front out (mended_text s))

    pub text-noted : (r : TextMended) → r ≡ text_answer s out report → (after : List ℕ)
        → after ≡ text_reported s out report → take r.lines after ≡ reports s
    text-noted r e after k =
        let count : r.lines ≡ length (reports s) =
        ap (λ (t : TextMended). t.lines) e ∙ rw there (sym (length-map (lines_of s) report_byte)) in
        let laid-there : after ≡ laid report 0 (reports s) = k ∙ rw there refl in
        rw (count, laid-there) (front report (reports s))

-- a text has no more lines than bytes
pub lines-few : (s : List ℕ) → length (lines_of s) ≤ length s
unfolding lines_of
lines-few [] = omega arith
lines-few (c ∷ s) = by-test (c == line_feed) (lines_of s) (lines-few s)
  where
    by-test : (t : Bool) (ls : List Line) → length ls ≤ length s
        → length (if t then record { chars = []; fed = true } ∷ ls else longer c ls) ≤ length (c ∷ s)
    by-test true ls h = omega arith
    by-test false [] h = omega arith
    by-test false (l ∷ ls) h = omega arith
