-- A reader of pieces finds the course of the lines, whatever stands in its buffer before: from a reader that holds the
-- characters u of an unfinished line, a piece s makes what the lines of u and s come to. Its frames are laid one behind
-- the other, or, where the buffer has no room for all of them, refusal 1 comes.
--     holding w u n          the reader at a line w, with unfinished characters u and n bytes written
--     Shortened n out c x    refusal 1 has come, and reader and buffer hold the frames of the course that fit behind n
--                            bytes
--     Came n out c x         reader and buffer hold the course c behind n bytes, where there is room; else they are so
--                            shortened
--     piece-came             the theorem
use Rattle.std.specs.Prelude.{ℕ, ◌+◌, ◌-◌, ◌<◌, ◌≤◌, ◌≡◌, refl, Bool, true, false, not, eqb, leb}
use Rattle.std.proofs.Common.{sym, ap, ◌∙◌, eqb-true, leb-true, leb-false}
use mathlib.Core.List.{List, [], ◌∷◌, ◌++◌, append_assoc, append-nil}
use native.Mathlib.Omega.{arith}
use Rattle.std.proofs.lemmas.Bool.{eqb-false, lt-leb}
use Rattle.std.proofs.Math.ListN.{length, length-append}
use Rattle.std.specs.Prelude.{if◌then◌else◌}
use Rattle.basic_laws.specs.Fold.{fold, all}
use Rattle.basic_laws.specs.FoldLaws.{all_append}
use Rattle.basic_laws.specs.Laid.{laid}
use Rattle.basic_laws.specs.LaidLaws.{laid_none, laid_more, laid-length}
use Rattle.refusals.specs.Refusals.{accepted, no_room, not_hex, malformed}
use Rattle.text.specs.Digits.{spells, number_in}
use Rattle.text.specs.Lines.{line_feed, not_feed, lines_of}
use Rattle.text.specs.LinesLaws.{lines_cut, plain_lines}
use Rattle.text.specs.declared.laying.Written.{Written}
use Rattle.text.proofs.LayingLaws.{lay-fits, lay-short}
use Rattle.frame.specs.declared.Frame.{Frame}
use Rattle.frame.specs.Writing.{fed_line}
use Rattle.frame.specs.Recording.{write_all}
use Rattle.captures.specs.declared.pulses.Wire.{Wire}
use Rattle.captures.specs.declared.pulses.Step.{Step}
use Rattle.captures.specs.Rule.{edge_step}
use Rattle.captures.specs.Partial.{time_digits, no_line, gathered_time}
use Rattle.captures.specs.PartialLaws.{gathered-count, gathered-spelt, gathered-time, gathered-more}
use Rattle.captures.specs.declared.edges.Reader.{Reader}
use Rattle.captures.specs.Edges.{refused_with, taken_so_far, on_edge, line_ended, frame_written, fed_line_reader, fed_line_leaves}
use Rattle.captures.specs.Edges.{Reading, on_byte, fed_bytes}
use Rattle.captures.proofs.EdgesLaws.{edge-refused, edge-taken, line_other, line-length, line-time, closing-refused}
use Rattle.captures.proofs.EdgesLaws.{closing-done, feed-closes, feed-moves, refused-stays, on-character, on-feed}
use Rattle.capture_laws.specs.Capture.{line_step, EdgeCourse, course_stopped, closing, course_onward, course_of}
use Rattle.capture_laws.specs.Capture.{FrameSound}
use Rattle.capture_laws.specs.Claims.{Filled}
use Rattle.capture_laws.specs.Fitting.{fitting}
use Rattle.capture_laws.specs.FittingLaws.{fitting-more, fitting-none}
use Rattle.capture_laws.specs.StepLaws.{line-fair}

one-zero : no_room ≡ accepted → ⊥
one-zero z = omega arith

abbrev pub holding : Wire → List ℕ → ℕ → Reader
holding w u n = record { refusal = accepted; written = n; line = gathered_time u; wire = w }

-- ## A feed

module _ (w : Wire) (u : List ℕ) (n : ℕ) where
  -- what is known of the characters is enough
  judged : line_ended (holding w u n) ≡ on_edge (holding w u n) (line_step w u)
  judged = by_digits (spells 16 u) refl
    where
      by_length : (t : Bool) → eqb (length u) time_digits ≡ t → spells 16 u ≡ true
          → line_ended (holding w u n) ≡ on_edge (holding w u n) (if not t
          then record { refusal = malformed; closes = false; wire = w } else edge_step w (number_in 16 u))
      by_length true e spelt =
          let size = eqb-true (length u) time_digits e in
          let count : (gathered_time u).count ≡ time_digits = gathered-count u ∙ omega arith in
          sym (line-time (holding w u n) (gathered-spelt u ∙ spelt) count)
          ∙ ap (λ (t : ℕ). on_edge (holding w u n) (edge_step w t)) (gathered-time u spelt size)
      by_length false e spelt =
          let size = eqb-false (length u) time_digits e in
          let known = gathered-count u in
          let count : (gathered_time u).count ≡ time_digits → ⊥ = λ z. size (omega arith) in
          sym (line-length (holding w u n) (gathered-spelt u ∙ spelt) count)

      by_digits : (t : Bool) → spells 16 u ≡ t
          → line_ended (holding w u n) ≡ on_edge (holding w u n)
          (if not t then record { refusal = not_hex; closes = false; wire = w } else if not (eqb (length u) time_digits)
          then record { refusal = malformed; closes = false; wire = w } else edge_step w (number_in 16 u))
      by_digits true e = by_length (eqb (length u) time_digits) refl e
      by_digits false e = sym (line_other (holding w u n) (gathered-spelt u ∙ e))

-- what a feed makes of reader and buffer, by what the line comes to
module _ (w : Wire) (u : List ℕ) (n : ℕ) (out : List ℕ) where
  abbrev feed-made : Reading
  feed-made = record { reader = fed_line_reader (holding w u n) out; out = fed_line_leaves (holding w u n) out }

  turn-refused : ((line_step w u).refusal ≡ accepted → ⊥)
      → feed-made ≡ record { reader = refused_with (holding w u n) (line_step w u).refusal; out = out }
  turn-refused h =
      let e = judged w u n ∙ sym (edge-refused (holding w u n) (line_step w u) h) in
      let m = feed-moves (holding w u n) out (rw e refl) in
      rw (← m.0, ← m.1, e) refl

  module _ (taken : (line_step w u).refusal ≡ accepted) where
    known : line_ended (holding w u n) ≡ record {
      closes = (line_step w u).closes;
      reader = record { refusal = accepted; written = n; line = no_line; wire = (line_step w u).wire };
    }
    known = judged w u n ∙ sym (edge-taken (holding w u n) (line_step w u) taken)

    turn_moved : (line_step w u).closes ≡ false
        → feed-made ≡ record {
          reader = record {
            refusal = accepted;
            written = n;
            line = no_line;
            wire = (line_step w u).wire;
          };
          out = out;
        }
    turn_moved e =
        let m = feed-moves (holding w u n) out (rw known e) in
        rw (← m.0, ← m.1, known) refl

    turn-closed : (line_step w u).closes ≡ true → FrameSound w.frame → n + length (fed_line w.frame) ≤ length out
        → feed-made ≡ record {
          reader = record {
            refusal = accepted;
            written = n + length (fed_line w.frame);
            line = no_line;
            wire = (line_step w u).wire;
          };
          out = laid out n (fed_line w.frame);
        }
    turn-closed e sound room =
        let f = feed-closes (holding w u n) out (rw known e) in
        let r = holding w u n in
        let x = fed_line w.frame in
        let fits = lay-fits out n x room in
        let wrote : frame_written r out ≡ record { refusal = accepted; next = n + length x } =
        rw sound.carried fits.0 in
        let reader-is : fed_line_reader r out ≡ record {
          refusal = accepted;
          written = n + length x;
          line = no_line;
          wire = (line_step w u).wire;
        } =
        sym f.0 ∙ sym (closing-done r (line_ended r).reader out (ap (λ (a : Written). a.refusal) wrote))
        ∙ rw (known, wrote) refl in
        let out-is : fed_line_leaves r out ≡ laid out n x = sym f.1 ∙ rw sound.carried fits.1 in
        rw (reader-is, out-is) refl

    turn-short : (line_step w u).closes ≡ true → FrameSound w.frame → length out < n + length (fed_line w.frame)
        → feed-made ≡ record { reader = refused_with (holding w u n) no_room; out = out }
    turn-short e sound room =
        let f = feed-closes (holding w u n) out (rw known e) in
        let r = holding w u n in
        let x = fed_line w.frame in
        let short = lay-short out n x (length x) refl (lt-leb (n + length x) (length out) room) in
        let wrote : frame_written r out ≡ record { refusal = no_room; next = 0 } = rw sound.carried (sym short.0) in
        let reader-is : fed_line_reader r out ≡ refused_with r no_room =
        sym f.0 ∙ sym (closing-refused r (line_ended r).reader out
        (λ z. one-zero (sym (ap (λ (a : Written). a.refusal) wrote) ∙ z))) ∙ rw wrote refl in
        let out-is : fed_line_leaves r out ≡ out = sym f.1 ∙ rw sound.carried (sym short.1) in
        rw (reader-is, out-is) refl

-- ## A piece

pub record Shortened (n : ℕ) (out : List ℕ) (c : EdgeCourse) (x : Reading) : Type 0 where
  pub refusal : x.reader.refusal ≡ no_room
  pub written : x.reader.written ≡ n + length (write_all (fitting (length out - n) c.frames))
  pub laid_out : x.out ≡ laid out n (write_all (fitting (length out - n) c.frames))

pub data Came (n : ℕ) (out : List ℕ) (c : EdgeCourse) (x : Reading) : Type 0 where
  fits : n + length (write_all c.frames) ≤ length out → Filled n out c x → Came n out c x
  short : length out < n + length (write_all c.frames) → Shortened n out c x → Came n out c x

-- nothing is closed
quiet-came : (n : ℕ) (out : List ℕ) (w : Wire) (m : ℕ) (cs : List ℕ) (r : Reader) → n ≤ length out → r.refusal ≡ m
    → r.written ≡ n → r.wire ≡ w
    → (m ≡ accepted → r.line ≡ gathered_time cs) → Came n out (course_stopped w m cs) record { reader = r; out = out }
unfolding write_all
quiet-came n out w m cs r room a b d e =
    let z : n + 0 ≤ length out = omega arith in
    let sum : n ≡ n + 0 = omega arith in
    fits z record { refusal = a; written = b ∙ sum; wire = d; line = e; laid_out = laid_none out n }

-- a frame is closed, and behind it the course c
closing-came : (n : ℕ) (out : List ℕ) (f : Frame) (c : EdgeCourse) (x : Reading) → n + length (fed_line f) ≤ length out
    → Came (n + length (fed_line f)) (laid out n (fed_line f)) c x → Came n out (closing f c) x
unfolding write_all
closing-came n out f c x room (fits h k) =
    let size = laid-length out n (fed_line f) room in
    let sum = length-append (fed_line f) (write_all c.frames) in
    fits (omega arith) record {
      refusal = k.refusal;
      written = k.written ∙ omega arith;
      wire = k.wire;
      line = k.line;
      laid_out = k.laid_out ∙ laid_more out n (fed_line f) (write_all c.frames) room;
    }
closing-came n out f c x room (short h e) =
    let line = fed_line f in
    let size = laid-length out n line room in
    let sum = length-append line (write_all c.frames) in
    let here : length line ≤ length out - n = omega arith in
    let left : length out - n - length line ≡ length (laid out n line) - (n + length line) = omega arith in
    let rest = fitting (length (laid out n line) - (n + length line)) c.frames in
    let front : fitting (length out - n) (f ∷ c.frames) ≡ f ∷ rest =
    fitting-more (length out - n) f c.frames here ∙ ap (λ (k : ℕ). f ∷ fitting k c.frames) left in
    let more = length-append line (write_all rest) in
    short (omega arith) record {
      refusal = e.refusal;
      written = rw front (e.written ∙ omega arith);
      laid_out = rw front (e.laid_out ∙ laid_more out n line (write_all rest) room);
    }

pub plain-course : (w : Wire) (u : List ℕ) → all not_feed u ≡ true → course_of w (lines_of u) ≡ course_stopped w accepted u
unfolding course_of lines_of
plain-course w [] h = refl
plain-course w (c ∷ u) h = ap (course_of w) (plain_lines c u h)

came-as : {n : ℕ} {out : List ℕ} {c : EdgeCourse} {x y : Reading} → x ≡ y → Came n out c y → Came n out c x
came-as e k = rw e k

-- a feed, where the theorem holds of what stands behind it
module _ (s : List ℕ) (behind : (w : Wire) (n : ℕ) (out : List ℕ) → FrameSound w.frame → n ≤ length out
    → Came n out (course_of w (lines_of s)) (fed_bytes (holding w [] n) out s))
    (u : List ℕ) (w : Wire) (n : ℕ) (out : List ℕ) (sound : FrameSound w.frame) (room : n ≤ length out) where
  abbrev line_of : Step
  line_of = line_step w u

  abbrev later : EdgeCourse
  later = course_of line_of.wire (lines_of s)

  abbrev frame-line : List ℕ
  frame-line = fed_line w.frame

  abbrev fed-all : Reading
  fed-all = fold on_byte (feed-made w u n out) s

  refused-came : (line_of.refusal ≡ accepted → ⊥) → Came n out (course_stopped w line_of.refusal []) fed-all
  refused-came h =
      let r = refused_with (holding w u n) line_of.refusal in
      came-as (ap (λ (x : Reading). fold on_byte x s) (turn-refused w u n out h)
      ∙ refused-stays record { reader = r; out = out } h s)
      (quiet-came n out w line_of.refusal [] r room refl refl refl (λ z. absurd (h z)))

  moved-came : line_of.refusal ≡ accepted → line_of.closes ≡ false → Came n out later fed-all
  unfolding fold
  moved-came h e = came-as (ap (λ (x : Reading). fold on_byte x s) (turn_moved w u n out h e))
      (behind line_of.wire n out (line-fair w sound u).sound room)

  closed-came : line_of.refusal ≡ accepted → line_of.closes ≡ true → n + length frame-line ≤ length out
      → Came n out (closing w.frame later) fed-all
  unfolding fold
  closed-came h e k =
      let size = laid-length out n frame-line k in
      closing-came n out w.frame later fed-all k
      (came-as (ap (λ (x : Reading). fold on_byte x s) (turn-closed w u n out h e sound k))
      (behind line_of.wire (n + length frame-line) (laid out n frame-line) (line-fair w sound u).sound
      (omega arith)))

  short-came : line_of.refusal ≡ accepted → line_of.closes ≡ true → length out < n + length frame-line
      → Came n out (closing w.frame later) fed-all
  unfolding write_all
  short-came h e k =
      let r = refused_with (holding w u n) no_room in
      let sum = length-append frame-line (write_all later.frames) in
      let none : fitting (length out - n) (w.frame ∷ later.frames) ≡ [] =
      fitting-none (length out - n) w.frame later.frames (omega arith) in
      let still : n ≡ n + 0 = omega arith in
      came-as (ap (λ (x : Reading). fold on_byte x s) (turn-short w u n out h e sound k)
      ∙ refused-stays record { reader = r; out = out } one-zero s)
      (short (omega arith) record { refusal = refl; written = rw none still; laid_out = rw none (laid_none out n) })

  feed-came : Came n out (course_onward w line_of later) fed-all
  feed-came = by-refusal (eqb line_of.refusal accepted) refl
    where
      by-room : (t : Bool) → leb (n + length frame-line) (length out) ≡ t → line_of.refusal ≡ accepted
          → line_of.closes ≡ true → Came n out (closing w.frame later) fed-all
      by-room true k h e = closed-came h e (leb-true (n + length frame-line) (length out) k)
      by-room false k h e = short-came h e (leb-false (n + length frame-line) (length out) k)

      by-closes : (t : Bool) → line_of.closes ≡ t → line_of.refusal ≡ accepted
          → Came n out (if t then closing w.frame later else later) fed-all
      by-closes true e h = by-room (leb (n + length frame-line) (length out)) refl h e
      by-closes false e h = moved-came h e

      by-refusal : (t : Bool) → eqb line_of.refusal accepted ≡ t
          → Came n out (if not t then course_stopped w line_of.refusal [] else if line_of.closes
          then closing w.frame later else later) fed-all
      by-refusal true h = by-closes line_of.closes refl (eqb-true line_of.refusal accepted h)
      by-refusal false h = refused-came (eqb-false line_of.refusal accepted h)

-- one byte, by whether it is a feed
pub feed-first : (u s : List ℕ) (w : Wire) → all not_feed u ≡ true
    → course_of w (lines_of (u ++ line_feed ∷ s))
    ≡ course_onward w (line_step w u) (course_of (line_step w u).wire (lines_of s))
unfolding course_of
feed-first u s w plain = ap (λ (t : List ℕ). course_of w (lines_of t)) (sym (append_assoc u (line_feed ∷ []) s))
    ∙ ap (course_of w) (lines_cut u s plain)

pub piece-came : (s u : List ℕ) (w : Wire) (n : ℕ) (out : List ℕ) → all not_feed u ≡ true → FrameSound w.frame
    → n ≤ length out
    → Came n out (course_of w (lines_of (u ++ s))) (fed_bytes (holding w u n) out s)
unfolding fold all
piece-came [] u w n out plain sound room =
    rw (append-nil u, plain-course w u plain)
    (quiet-came n out w accepted u (holding w u n) room refl refl refl (λ z. refl))
piece-came (c ∷ s) u w n out plain sound room =
    by-feed (eqb c line_feed) refl (piece-came s (u ++ (c ∷ [])) w n out) (λ v m d. piece-came s [] v m d refl)
  where
    by-feed : (t : Bool) → eqb c line_feed ≡ t
        → (all not_feed (u ++ (c ∷ [])) ≡ true → FrameSound w.frame → n ≤ length out
        → Came n out (course_of w (lines_of ((u ++ (c ∷ [])) ++ s))) (fed_bytes (holding w (u ++ (c ∷ [])) n) out s))
        → ((v : Wire) (m : ℕ) (d : List ℕ) → FrameSound v.frame → m ≤ length d
        → Came m d (course_of v (lines_of s)) (fed_bytes (holding v [] m) d s))
        → Came n out (course_of w (lines_of (u ++ c ∷ s)))
        (fold on_byte (on_byte record { reader = holding w u n; out = out } c) s)
    by-feed true e here behind =
        let feed = eqb-true c line_feed e in
        rw (feed, feed-first u s w plain) (came-as
        (ap (λ (x : Reading). fold on_byte x s) (on-feed (holding w u n) out refl))
        (feed-came s behind u w n out sound room))
    by-feed false e here behind =
        let other : not_feed c ≡ true = ap not e in
        let still : all not_feed (u ++ (c ∷ [])) ≡ true = all_append not_feed u (c ∷ []) ∙ rw (plain, other) refl in
        let took : on_byte record { reader = holding w u n; out = out } c
        ≡ record { reader = holding w (u ++ (c ∷ [])) n; out = out } =
        on-character (holding w u n) out refl c other ∙ rw (gathered-more u c) refl in
        came-as (ap (λ (x : Reading). fold on_byte x s) took) (rw (append_assoc u (c ∷ []) s) at (here still sound room))

-- the reader that holds an accepted course
pub fill_holds : (n : ℕ) (out : List ℕ) (c : EdgeCourse) (x : Reading) → Filled n out c x → c.refusal ≡ accepted
    → taken_so_far x.reader ≡ holding c.wire c.left 0
fill_holds n out c x k h = rw (k.refusal, h, k.line h, k.wire) refl
