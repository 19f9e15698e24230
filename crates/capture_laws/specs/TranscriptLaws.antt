-- What a program hands on for the pieces of a capture and its end, one after the other, is the transcript of the whole.
--     handed-text            what an answer hands on: its frames, and the line of its refusal
--     ended-behind           frames closed before a course are closed before the course with its end
--     run-transcript         the theorem
use Rattle.std.specs.Prelude.{ℕ, ◌+◌, ◌<◌, ◌≤◌, ◌≡◌, refl, ◌≢◌, Bool, true, false, not, List, [], ◌∷◌, ◌++◌, eqb, length}
use Rattle.std.proofs.Common.{sym, ap, ◌∙◌, append_assoc, append-nil, arith, eq-eqb, ne_eqb, eqb-true, length-append}
use Rattle.std.proofs.lemmas.Bool.{eqb-false}
use Rattle.std.specs.Prelude.{if◌then◌else◌}
use Rattle.basic_laws.specs.Fold.{fold, all}
use Rattle.basic_laws.specs.Laid.{laid}
use Rattle.basic_laws.specs.LaidLaws.{laid_none, laid-length, laid-read, laid_then}
use Rattle.refusals.specs.Refusals.{accepted, not_hex}
use Rattle.text.specs.Lines.{not_feed, lines_of}
use Rattle.text.specs.declared.laying.Written.{Written}
use Rattle.text.proofs.LayingLaws.{lay-fits}
use Rattle.naming.specs.Naming.{refused_name}
use Rattle.naming.specs.PrintingLaws.{printed-length}
use Rattle.frame.specs.declared.Frame.{Frame}
use Rattle.frame.specs.Writing.{fed_line}
use Rattle.frame.proofs.WritingLaws.{lineable-count, fed-length}
use Rattle.frame.specs.Recording.{write_all}
use Rattle.frame.proofs.RecordingLaws.{write-append}
use Rattle.captures.specs.declared.pulses.Wire.{Wire}
use Rattle.captures.specs.declared.pulses.PulseStage.{PulseStage}
use Rattle.captures.specs.declared.pulses.PulseStage.TheVariants.{Idle, FirstLow, Released, Presence, High, Low}
use Rattle.captures.specs.declared.pulses.Ending.{Ending}
use Rattle.captures.specs.Rule.{untouched, ending_at}
use Rattle.captures.specs.declared.edges.Answer.{Answer}
use Rattle.captures.specs.Edges.{fresh_reader, Reading, fed_bytes, feed_answer, end_answer, end_leaves}
use Rattle.captures.specs.declared.edge_printing.Printed.{Printed}
use Rattle.captures.specs.EdgePrinting.{refused_line, behind_refusal, printed_for, printed_leaves}
use Rattle.captures.specs.EdgePrintingLaws.{refusal-laid, printed-refused, printed-on}
use Rattle.capture_laws.specs.Capture.{EdgeCourse, course_stopped, course_of, refused_end, last_closed, course_ended}
use Rattle.capture_laws.specs.Capture.{FrameSound}
use Rattle.capture_laws.specs.StepLaws.{blank-sound, open_bytes, course-kept}
use Rattle.capture_laws.specs.Claims.{Filled}
use Rattle.capture_laws.specs.FillLaws.{holding, Came, fits, short, plain-course, piece-came, fill_holds}
use Rattle.capture_laws.specs.CutLaws.{behind, course-on, course-stop, left-plain}
use Rattle.capture_laws.specs.EndLaws.{end-closed}
use Rattle.capture_laws.specs.Taken.{Piece, in_one}
use Rattle.capture_laws.specs.RoomLaws.{room-enough}
use Rattle.capture_laws.specs.Transcript.{text_of, transcript, handed_on, of_piece, printed_run, enough_room, Lent}

-- ## What an answer hands on

-- frames laid from byte 0, and an answer that counts them
module _ (a : Answer) (l out x : List ℕ) (count : a.written ≡ length x) (lies : l ≡ laid out 0 x) where
  handed-on : a.refusal ≡ accepted → handed_on a l ≡ x
  handed-on h =
      let p = printed-on a l h in
      let n : (printed_for a l).written ≡ length x = ap (λ (q : Printed). q.written) (sym p.0) ∙ count in
      rw (n, ← p.1, lies) (laid-read out 0 x (omega arith))

  handed-refused : a.refusal ≢ accepted → length x + length (refused_line a.refusal) ≤ length out
      → handed_on a l ≡ x ++ refused_line a.refusal
  handed-refused h room =
      let line = refused_line a.refusal in
      let p = printed-refused a l h in
      let size : length l ≡ length out = ap length lies ∙ laid-length out 0 x (omega arith) in
      let there : a.written + length line ≤ length l = omega arith in
      let put = lay-fits l a.written line there in
      let place : behind_refusal l a.written a.refusal ≡ a.written + length line =
      sym (refusal-laid l a.written a.refusal (ap (λ (w : Written). w.refusal) put.0))
      ∙ ap (λ (w : Written). w.next) put.0 in
      let sum : a.written + length line ≡ length (x ++ line) = rw (length-append x line) (omega arith) in
      let n : (printed_for a l).written ≡ length (x ++ line) =
      ap (λ (q : Printed). q.written) (sym p.0) ∙ place ∙ sum in
      let leaves : printed_leaves a l ≡ laid out 0 (x ++ line) =
      sym p.1 ∙ put.1 ∙ ap (λ (d : List ℕ). laid d a.written line) lies
      ∙ laid_then out 0 x line a.written (omega arith) (omega arith) in
      rw (n, leaves) (laid-read out 0 (x ++ line) (omega arith))

pub handed-text : (a : Answer) (l out : List ℕ) (c : EdgeCourse) → a.refusal ≡ c.refusal
    → a.written ≡ length (write_all c.frames) → l ≡ laid out 0 (write_all c.frames)
    → c.refusal < 256 → length (write_all c.frames) + 29 ≤ length out → handed_on a l ≡ text_of c
handed-text a l out c same count lies small room = by-test (eqb c.refusal accepted) refl
  where
    by-test : (t : Bool) → eqb c.refusal accepted ≡ t
        → handed_on a l ≡ (if t then write_all c.frames else write_all c.frames ++ refused_line c.refusal)
    by-test true e = handed-on a l out (write_all c.frames) count lies (same ∙ eqb-true c.refusal accepted e)
    by-test false e =
        let other = eqb-false c.refusal accepted e in
        let brief = printed-length (refused_name c.refusal) small in
        let wide : length (write_all c.frames) + length (refused_line a.refusal) ≤ length out =
        rw same (omega arith) in
        handed-refused a l out (write_all c.frames) count lies (λ z. other (sym same ∙ z)) wide
        ∙ ap (λ (n : ℕ). write_all c.frames ++ refused_line n) same

-- ## A course with its end

one_line : (f : Frame) → length (write_all (f ∷ [])) ≡ length (fed_line f)
unfolding write_all
one_line f = ap length (append-nil (fed_line f))

ending-small : (s : PulseStage) → (ending_at s).refusal < 256
ending-small Idle = omega arith
ending-small FirstLow = omega arith
ending-small Released = omega arith
ending-small Presence = omega arith
ending-small High = omega arith
ending-small Low = omega arith

-- its frames take at most the line of the open frame more, and its refusal is a byte
ended-small : (c : EdgeCourse) → c.refusal < 256
    → (length (write_all (course_ended c).frames) ≤ length (write_all c.frames) + open_bytes c.wire)
    × ((course_ended c).refusal < 256)
ended-small c small = by-test (eqb c.refusal accepted) (eqb (length c.left) 0) (eqb e.refusal accepted)
    e.closes
  where
    e : Ending
    e = ending_at c.wire.stage

    by-test : (t u v x : Bool) →
        let d = if not t then c else if not u then refused_end c not_hex else if not v
        then refused_end c (ending_at c.wire.stage).refusal else if x then last_closed c else c in
        (length (write_all d.frames) ≤ length (write_all c.frames) + open_bytes c.wire) × (d.refusal < 256)
    by-test false u v x = (omega arith, small)
    by-test true false v x = (omega arith, omega arith)
    by-test true true false x = (omega arith, ending-small c.wire.stage)
    by-test true true true true =
        let text = write-append c.frames (c.wire.frame ∷ []) in
        let sum = ap length text ∙ length-append (write_all c.frames) (write_all (c.wire.frame ∷ [])) in
        let one = one_line c.wire.frame in
        (omega arith, small)
    by-test true true true false = (omega arith, small)

ended-behind : (fs : List Frame) (c : EdgeCourse) → course_ended (behind fs c) ≡ behind fs (course_ended c)
ended-behind fs c = by-test (eqb c.refusal accepted) (eqb (length c.left) 0)
    (eqb (ending_at c.wire.stage).refusal accepted) (ending_at c.wire.stage).closes
  where
    by-test : (t u v x : Bool) →
        (if not t then behind fs c else if not u then refused_end (behind fs c) not_hex else if not v
        then refused_end (behind fs c) (ending_at c.wire.stage).refusal else if x then last_closed (behind fs c)
        else behind fs c)
        ≡ behind fs (if not t then c else if not u then refused_end c not_hex else if not v
        then refused_end c (ending_at c.wire.stage).refusal else if x then last_closed c else c)
    by-test false u v x = refl
    by-test true false v x = refl
    by-test true true false x = refl
    by-test true true true true =
        ap (λ (gs : List Frame). record { frames = gs; refusal = c.refusal; wire = c.wire; left = c.left })
        (append_assoc fs c.frames (c.wire.frame ∷ []))
    by-test true true true false = refl

text-behind : (fs : List Frame) (c : EdgeCourse) → text_of (behind fs c) ≡ write_all fs ++ text_of c
text-behind fs c = by-test (eqb c.refusal accepted)
  where
    by-test : (t : Bool) → (if t then write_all (fs ++ c.frames)
        else write_all (fs ++ c.frames) ++ refused_line c.refusal)
        ≡ write_all fs ++ (if t then write_all c.frames else write_all c.frames ++ refused_line c.refusal)
    by-test true = write-append fs c.frames
    by-test false = rw (write-append fs c.frames)
        (append_assoc (write_all fs) (write_all c.frames) (refused_line c.refusal))

-- ## Pieces one after the other

-- the end, behind unfinished characters
pub end-text : (w : Wire) (u out : List ℕ) → FrameSound w.frame → enough_room ≤ length out
    → handed_on (end_answer (holding w u 0) out) (end_leaves (holding w u 0) out)
    ≡ text_of (course_ended (course_stopped w accepted u))
unfolding write_all
end-text w u out sound room =
    let c = course_stopped w accepted u in
    let x : Reading = record { reader = holding w u 0; out = out } in
    let filled : Filled 0 out c x = record {
      refusal = refl;
      written = refl;
      wire = refl;
      line = λ z. refl;
      laid_out = laid_none out 0;
    } in
    let most = lineable-count w.frame sound.carried in
    let size = fed-length w.frame sound.held.size sound.carried in
    let small = ended-small c (omega arith) in
    let bound = small.0 in
    let k = end-closed 0 out c x filled sound (omega arith) in
    handed-text (end_answer (holding w u 0) out) (end_leaves (holding w u 0) out) out (course_ended c) k.refusal
    (k.written ∙ omega arith) k.laid_out small.1 (omega arith)

-- a first piece, where the theorem holds of those behind it
module _ (p : Piece) (ps : List Piece) (w : Wire) (u out : List ℕ) (plain : all not_feed u
    ≡ true) (sound : FrameSound w.frame) (room : enough_room + length p.bytes ≤ length p.buffer)
    (later : (v : Wire) (x : List ℕ) → all not_feed x ≡ true → FrameSound v.frame
    → printed_run (holding v x 0) ps out ≡ text_of (course_ended (course_of v (lines_of (x ++ in_one ps))))) where
  abbrev first-course : EdgeCourse
  first-course = course_of w (lines_of (u ++ p.bytes))

  abbrev after_first : Reading
  after_first = fed_bytes (holding w u 0) p.buffer p.bytes

  abbrev said-first : Answer
  said-first = feed_answer (holding w u 0) p.buffer p.bytes

  abbrev Whole : Type 0
  Whole =
      handed_on said-first after_first.out ++ (if (of_piece (holding w u 0) p).going
      then printed_run (of_piece (holding w u 0) p).reader ps out else [])
      ≡ text_of (course_ended (course_of w (lines_of (u ++ (p.bytes ++ in_one ps)))))

  in_order : course_of w (lines_of (u ++ (p.bytes ++ in_one ps))) ≡ course_of w (lines_of ((u ++ p.bytes) ++ in_one ps))
  in_order = ap (λ (t : List ℕ). course_of w (lines_of t)) (sym (append_assoc u p.bytes (in_one ps)))

  module _ (k : Filled 0 p.buffer first-course after_first) where
    first-text : handed_on said-first after_first.out ≡ text_of first-course
    first-text =
        let enough = room-enough w sound u p.bytes plain in
        handed-text said-first after_first.out p.buffer first-course k.refusal (k.written
        ∙ omega arith) k.laid_out (course-kept w sound (lines_of (u ++ p.bytes))).small (omega arith)

    on : first-course.refusal ≡ accepted → Whole
    on h =
        let well : said-first.refusal ≡ accepted = k.refusal ∙ h in
        let next = sym (printed-on said-first after_first.out well).0 in
        let at = fill_holds 0 p.buffer first-course after_first k h in
        let more = course_of first-course.wire (lines_of (first-course.left ++ in_one ps)) in
        let rest = later first-course.wire first-course.left (left-plain w (u ++ p.bytes) h)
        (course-kept w sound (lines_of (u ++ p.bytes))).last in
        let first-lines : text_of first-course ≡ write_all first-course.frames =
        rw (eq-eqb first-course.refusal accepted h) refl in
        let whole : text_of (course_ended (course_of w (lines_of (u ++ (p.bytes ++ in_one ps)))))
        ≡ write_all first-course.frames ++ text_of (course_ended more) =
        ap (λ (c : EdgeCourse). text_of (course_ended c)) (in_order ∙ course-on w (u ++ p.bytes) (in_one ps) h)
        ∙ ap text_of (ended-behind first-course.frames more)
        ∙ text-behind first-course.frames (course_ended more) in
        rw (first-text, first-lines, next, at, rest) (sym whole)

    off : first-course.refusal ≢ accepted → Whole
    off h =
        let other : said-first.refusal ≢ accepted = rw k.refusal h in
        let next = sym (printed-refused said-first after_first.out other).0 in
        let same : course_ended first-course ≡ first-course = rw (ne_eqb first-course.refusal accepted h) refl in
        let whole : text_of (course_ended (course_of w (lines_of (u ++ (p.bytes ++ in_one ps))))) ≡ text_of first-course =
        ap (λ (c : EdgeCourse). text_of (course_ended c)) (in_order ∙ course-stop w (u ++ p.bytes) (in_one ps) h)
        ∙ ap text_of same in
        rw (first-text, next) (append-nil (text_of first-course) ∙ sym whole)

  first_run : Came 0 p.buffer first-course after_first → Whole
  first_run (short h e) = let enough = room-enough w sound u p.bytes plain in absurd (omega arith)
  first_run (fits h k) = by-test (eqb first-course.refusal accepted) refl
    where
      by-test : (t : Bool) → eqb first-course.refusal accepted ≡ t → Whole
      by-test true e = on k (eqb-true first-course.refusal accepted e)
      by-test false e = off k (eqb-false first-course.refusal accepted e)

run-text : (ps : List Piece) (w : Wire) (u out : List ℕ) → all not_feed u ≡ true → FrameSound w.frame → Lent ps
    → enough_room ≤ length out
    → printed_run (holding w u 0) ps out ≡ text_of (course_ended (course_of w (lines_of (u ++ in_one ps))))
unfolding printed_run in_one
run-text [] w u out plain sound lent room = rw (append-nil u, plain-course w u plain) (end-text w u out sound room)
run-text (p ∷ ps) w u out plain sound lent room =
    first_run p ps w u out plain sound lent.0 (λ v x plain' sound'. run-text ps v x out plain' sound' lent.1 room)
    (piece-came p.bytes u w 0 p.buffer plain sound (omega arith))

-- what is handed on for the pieces of a capture and its end, whatever the cuts and the buffers, is the transcript of
-- the whole
pub run-transcript : (ps : List Piece) (out : List ℕ) → Lent ps → enough_room ≤ length out
    → printed_run fresh_reader ps out ≡ transcript (in_one ps)
unfolding fold all
run-transcript ps out lent room = run-text ps untouched [] out refl (blank-sound false) lent room
