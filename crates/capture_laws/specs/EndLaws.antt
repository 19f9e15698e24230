-- An end makes of reader and buffer what the course with its end says, where there is room for its frames; where there
-- is none for the last, it is refused with 1 and changes nothing.
--     end-closed             the theorem
--     end_short              the same without room
--     ended-behind           an end closes one frame more or none
--     ended-writable         a line can carry each of its frames
use Rattle.std.specs.Prelude.{ℕ, ◌+◌, ◌<◌, ◌≤◌, ◌≡◌, Bool, true, false, not, eqb}
use Rattle.std.proofs.Math.Path.{refl, sym, ap}
use Rattle.std.proofs.Common.{◌∙◌, eqb-true}
use mathlib.Core.List.{List, [], ◌∷◌, ◌++◌, append-nil}
use native.Mathlib.Omega.{arith}
use Rattle.std.proofs.lemmas.Bool.{eqb-false, lt-leb}
use Rattle.std.proofs.Math.ListN.{length, length-append}
use Rattle.std.specs.Prelude.{if◌then◌else◌}
use Rattle.basic_laws.specs.Laid.{laid}
use Rattle.basic_laws.specs.LaidLaws.{laid_more, laid-length}
use Rattle.refusals.specs.Refusals.{accepted, no_room, not_hex}
use Rattle.text.specs.declared.laying.Written.{Written}
use Rattle.text.proofs.LayingLaws.{lay-fits, lay-short}
use Rattle.frame.specs.Writing.{fed_line}
use Rattle.frame.specs.declared.Frame.{Frame}
use Rattle.frame.specs.Recording.{write_all, Writable, none, one}
use Rattle.frame.proofs.RecordingLaws.{write-append}
use Rattle.captures.specs.declared.pulses.Wire.{Wire}
use Rattle.captures.specs.declared.pulses.Ending.{Ending}
use Rattle.captures.specs.Rule.{ending_at}
use Rattle.captures.specs.declared.edge_lines.Partial.{Partial}
use Rattle.captures.specs.PartialLaws.{gathered-count}
use Rattle.captures.specs.declared.edges.Reader.{Reader}
use Rattle.captures.specs.declared.edges.Answer.{Answer}
use Rattle.captures.specs.Edges.{refused_with, frame_written, closed_leaves, Reading, answers_of, finished_with, end_answer}
use Rattle.captures.specs.Edges.{end_leaves}
use Rattle.captures.proofs.EdgesLaws.{last_done, last-refused, end-again, end-in-line, end_low, end-closes, end-nothing}
use Rattle.capture_laws.specs.Capture.{EdgeCourse, refused_end, last_closed, ended_at, course_ended, FrameSound}
use Rattle.capture_laws.specs.StepLaws.{Kept}
use Rattle.capture_laws.specs.Claims.{Filled, Closed}

module _ (n : ℕ) (out : List ℕ) (c : EdgeCourse) (x : Reading) (k : Filled n out c x)
    (sound : FrameSound c.wire.frame) where
  abbrev at-end : Reader
  at-end = x.reader

  abbrev Done : EdgeCourse → Type 0
  Done d = n + length (write_all d.frames) ≤ length out
      → Closed n out d (end_answer at-end x.out) (end_leaves at-end x.out)

  -- the answer is the reader's own, with some refusal
  own-closed : (m : ℕ) (a : Answer) (l : List ℕ) → (m ≡ accepted → ⊥) → answers_of (refused_with at-end m) ≡ a
      → x.out ≡ l → Closed n out (refused_end c m) a l
  own-closed m a l h e f = rw (← e, ← f) record {
    refusal = refl;
    written = k.written;
    laid_out = k.laid_out;
    restarted = λ z. absurd (h z);
  }

  refused-before : (c.refusal ≡ accepted → ⊥) → Done c
  refused-before h room =
      let again = end-again at-end x.out (rw k.refusal h) in
      rw (← again.0, ← again.1) record {
        refusal = k.refusal;
        written = k.written;
        laid_out = k.laid_out;
        restarted = λ z. absurd (h z);
      }

  module _ (well : c.refusal ≡ accepted) where
    reader-well : at-end.refusal ≡ accepted
    reader-well = k.refusal ∙ well

    in-line : (length c.left ≡ 0 → ⊥) → Done (refused_end c not_hex)
    in-line h room =
        let count = ap (λ (p : Partial). p.count) (k.line well) ∙ gathered-count c.left in
        let some : at-end.line.count ≡ 0 → ⊥ = λ z. h (omega arith) in
        let cut = end-in-line at-end x.out reader-well some in
        own-closed not_hex (end_answer at-end x.out) (end_leaves at-end x.out) (λ z. omega arith) cut.0 cut.1

    module _ (bare : length c.left ≡ 0) where
      no_line : at-end.line.count ≡ 0
      no_line = let count = ap (λ (p : Partial). p.count) (k.line well) ∙ gathered-count c.left in omega arith

      abbrev ending : Ending
      ending = ending_at c.wire.stage

      same-ending : ending ≡ ending_at at-end.wire.stage
      same-ending = ap (λ (w : Wire). ending_at w.stage) (sym k.wire)

      in-low : (ending.refusal ≡ accepted → ⊥) → Done (refused_end c ending.refusal)
      in-low h room =
          let low = end_low at-end x.out reader-well no_line ending same-ending h in
          own-closed ending.refusal (end_answer at-end x.out) (end_leaves at-end x.out) h low.0 low.1

      nothing-open : ending.refusal ≡ accepted → ending.closes ≡ false → Done c
      nothing-open h e room =
          let none = end-nothing at-end x.out reader-well no_line ending same-ending h e in
          rw (← none.0, ← none.1) record {
            refusal = sym well;
            written = k.written;
            laid_out = k.laid_out;
            restarted = λ z. refl;
          }

      last-open : ending.refusal ≡ accepted → ending.closes ≡ true → Done (last_closed c)
      unfolding write_all
      last-open h e room =
          let f = c.wire.frame in
          let before = write_all c.frames in
          let line = fed_line f in
          let text : write_all (c.frames ++ (f ∷ [])) ≡ before ++ line =
          write-append c.frames (f ∷ []) ∙ ap (λ (t : List ℕ). before ++ t) (append-nil line) in
          let sum = ap length text ∙ length-append before line in
          let fits-before : n + length before ≤ length out = omega arith in
          let size = laid-length out n before fits-before in
          let there : n + length before + length line ≤ length (laid out n before) = omega arith in
          let put = lay-fits (laid out n before) (n + length before) line there in
          let wrote : frame_written at-end x.out
          ≡ record { refusal = accepted; next = n + length before + length line } =
          rw (k.wire, k.written, k.laid_out, sound.carried) put.0 in
          let last = end-closes at-end x.out reader-well no_line ending same-ending h e in
          let done = last_done at-end x.out (ap (λ (a : Written). a.refusal) wrote) in
          let left : closed_leaves at-end x.out ≡ laid out n (before ++ line) =
          rw (k.wire, k.written, k.laid_out, sound.carried) (put.1 ∙ laid_more out n before line fits-before) in
          let answered : end_answer at-end x.out ≡ finished_with (n + length before + length line) =
          sym last.0 ∙ sym done ∙ ap (λ (a : Written). finished_with a.next) wrote in
          record {
            refusal = ap (λ (a : Answer). a.refusal) answered ∙ sym well;
            written = ap (λ (a : Answer). a.written) answered ∙ omega arith;
            laid_out = sym last.1 ∙ left ∙ ap (laid out n) (sym text);
            restarted = λ z. ap (λ (a : Answer). a.reader) answered;
          }

      by-ending : Done (ended_at c ending)
      by-ending = by-refusal (eqb ending.refusal accepted) refl
        where
          by-closes : (t : Bool) → ending.closes ≡ t → ending.refusal ≡ accepted
              → Done (if t then last_closed c else c)
          by-closes true e h = last-open h e
          by-closes false e h = nothing-open h e

          by-refusal : (t : Bool) → eqb ending.refusal accepted ≡ t
              → Done (if not t then refused_end c ending.refusal else if ending.closes then last_closed c else c)
          by-refusal true h = by-closes ending.closes refl (eqb-true ending.refusal accepted h)
          by-refusal false h = in-low (eqb-false ending.refusal accepted h)

  pub end-closed : Done (course_ended c)
  end-closed = by-refusal (eqb c.refusal accepted) refl
    where
      by-line : (t : Bool) → eqb (length c.left) 0 ≡ t → c.refusal ≡ accepted
          → Done (if not t then refused_end c not_hex else ended_at c (ending_at c.wire.stage))
      by-line true e h = by-ending h (eqb-true (length c.left) 0 e)
      by-line false e h = in-line h (eqb-false (length c.left) 0 e)

      by-refusal : (t : Bool) → eqb c.refusal accepted ≡ t
          → Done (if not t then c else if not (eqb (length c.left) 0) then refused_end c not_hex
          else ended_at c (ending_at c.wire.stage))
      by-refusal true h = by-line (eqb (length c.left) 0) refl (eqb-true c.refusal accepted h)
      by-refusal false h = refused-before (eqb-false c.refusal accepted h)

-- ## Without room for the last frame

module _ (n : ℕ) (out : List ℕ) (c : EdgeCourse) (x : Reading) (k : Filled n out c x)
    (sound : FrameSound c.wire.frame)
    (room : n + length (write_all c.frames) ≤ length out) where
  abbrev Stays : EdgeCourse → Type 0
  Stays d = length out < n + length (write_all d.frames)
      → (end_answer x.reader x.out ≡ answers_of (refused_with x.reader no_room))
      × (end_leaves x.reader x.out ≡ x.out)

  last-short : c.refusal ≡ accepted → length c.left ≡ 0 → let e = ending_at c.wire.stage in
      e.refusal ≡ accepted → e.closes ≡ true → Stays (last_closed c)
  unfolding write_all
  last-short well bare h e past =
      let f = c.wire.frame in
      let before = write_all c.frames in
      let line = fed_line f in
      let text : write_all (c.frames ++ (f ∷ [])) ≡ before ++ line =
      write-append c.frames (f ∷ []) ∙ ap (λ (t : List ℕ). before ++ t) (append-nil line) in
      let sum = ap length text ∙ length-append before line in
      let size = laid-length out n before room in
      let none : length (laid out n before) < n + length before + length line = omega arith in
      let short = lay-short (laid out n before) (n + length before) line (length line) refl
      (lt-leb (n + length before + length line) (length (laid out n before)) none) in
      let wrote : frame_written x.reader x.out ≡ record { refusal = no_room; next = 0 } =
      rw (k.wire, k.written, k.laid_out, sound.carried) (sym short.0) in
      let left : closed_leaves x.reader x.out ≡ x.out =
      rw (k.wire, k.written, k.laid_out, sound.carried) (sym short.1) in
      let last = end-closes x.reader x.out (reader-well n out c x k sound well)
      (no_line n out c x k sound well bare)
      (ending_at c.wire.stage) (same-ending n out c x k sound well bare) h e in
      let refused : (frame_written x.reader x.out).refusal ≡ accepted → ⊥ =
      λ z. let one : no_room ≡ accepted = sym (ap (λ (a : Written). a.refusal) wrote) ∙ z in omega arith in (
        sym last.0 ∙ sym (last-refused x.reader x.out refused)
            ∙ ap (λ (a : Written). answers_of (refused_with x.reader a.refusal)) wrote,
        sym last.1 ∙ left,
      )

  pub end_short : Stays (course_ended c)
  end_short = by-refusal (eqb c.refusal accepted) refl
    where
      by-closes : (t : Bool) → (ending_at c.wire.stage).closes ≡ t → c.refusal ≡ accepted → length c.left ≡ 0
          → (ending_at c.wire.stage).refusal ≡ accepted → Stays (if t then last_closed c else c)
      by-closes true e well bare h = last-short well bare h e
      by-closes false e well bare h = λ past. absurd (omega arith)

      by-ending : (t : Bool) → eqb (ending_at c.wire.stage).refusal accepted ≡ t → c.refusal ≡ accepted
          → length c.left ≡ 0
          → let e = ending_at c.wire.stage in Stays (if not t then refused_end c e.refusal else if e.closes
          then last_closed c else c)
      by-ending true h well bare =
          by-closes (ending_at c.wire.stage).closes refl well bare
          (eqb-true (ending_at c.wire.stage).refusal accepted h)
      by-ending false h well bare = λ past. absurd (omega arith)

      by-line : (t : Bool) → eqb (length c.left) 0 ≡ t → c.refusal ≡ accepted
          → Stays (if not t then refused_end c not_hex else ended_at c (ending_at c.wire.stage))
      by-line true e well = by-ending (eqb (ending_at c.wire.stage).refusal accepted) refl well
          (eqb-true (length c.left) 0 e)
      by-line false e well = λ past. absurd (omega arith)

      by-refusal : (t : Bool) → eqb c.refusal accepted ≡ t
          → Stays (if not t then c else if not (eqb (length c.left) 0) then refused_end c not_hex
          else ended_at c (ending_at c.wire.stage))
      by-refusal true h = by-line (eqb (length c.left) 0) refl (eqb-true c.refusal accepted h)
      by-refusal false h = λ past. absurd (omega arith)

-- ## One frame more, or none

pub ended-behind : (c : EdgeCourse) (P : List Frame → Type 0) → P c.frames → P (c.frames ++ (c.wire.frame ∷ []))
    → P (course_ended c).frames
ended-behind c P same more =
    by-test (eqb c.refusal accepted) (eqb (length c.left) 0) (eqb (ending_at c.wire.stage).refusal accepted)
    (ending_at c.wire.stage).closes
  where
    by-test : (t u v x : Bool)
        → P (if not t then c else if not u then refused_end c not_hex else if not v
        then refused_end c (ending_at c.wire.stage).refusal else if x then last_closed c else c).frames
    by-test false u v x = same
    by-test true false v x = same
    by-test true true false x = same
    by-test true true true true = more
    by-test true true true false = same

-- ## The frames with the last one can be written

writable-last : {fs : List Frame} → Writable fs → (f : Frame) → FrameSound f → Writable (fs ++ (f ∷ []))
writable-last none f sound = one sound.held sound.carried none
writable-last (one held carried rest) f sound = one held carried (writable-last rest f sound)

pub ended-writable : (c : EdgeCourse) → Kept c → Writable (course_ended c).frames
ended-writable c k = by-test (eqb c.refusal accepted) (eqb (length c.left) 0)
    (eqb (ending_at c.wire.stage).refusal accepted) (ending_at c.wire.stage).closes
  where
    by-test : (t u v x : Bool)
        → Writable (if not t then c else if not u then refused_end c not_hex else if not v
        then refused_end c (ending_at c.wire.stage).refusal else if x then last_closed c else c).frames
    by-test false u v x = k.writable
    by-test true false v x = k.writable
    by-test true true false x = k.writable
    by-test true true true true = writable-last k.writable c.wire.frame k.last
    by-test true true true false = k.writable
