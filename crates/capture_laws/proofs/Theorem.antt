-- What a reader of captures finds, whatever the cuts and whatever the buffers:
--     any-cuts               pieces fed one after the other into a buffer make what one feed of all of them makes
--     capture-found          in a buffer with room for them, the frames, the refusal and the line are those of the
--                            course of the capture
--     capture-short          in a buffer without, refusal 1 comes
--     capture-read           what stands in the buffer reads back to those frames
--     capture-ended          an end makes of them what the course with its end says
--     ended-read             what stands in the buffer then reads back to the frames of that
--     refusal-stays          after a refusal every feed and every end gives it again, and changes nothing
--     taken-whole            bytes taken piece by piece, one after the other, are the text of the frames of the whole
--                            capture
--     taken-ample            it is enough for that that each buffer is 143 bytes longer than its piece
--     taken-one-feed         so they are those of a single feed
use Rattle.std.specs.Prelude.{ℕ, ◌<◌, ◌≤◌, ◌≡◌, refl, ◌≢◌, Bool, true, false, List, [], ◌∷◌, ◌++◌, map, eqb, length, take}
use Rattle.std.proofs.Common.{sym, ap, ◌∙◌, append_assoc, append-nil, arith, eqb-true}
use Rattle.std.proofs.lemmas.Bool.{eqb-false}
use Rattle.basic_laws.specs.Fold.{fold, all}
use Rattle.basic_laws.specs.FoldLaws.{fold-append}
use Rattle.basic_laws.specs.LaidLaws.{laid-read}
use Rattle.refusals.specs.Refusals.{accepted, no_room}
use Rattle.text.specs.Lines.{not_feed, lines_of}
use Rattle.pieces.specs.Pieces.{together}
use Rattle.frame.specs.ReadLine.{carries}
use Rattle.frame.specs.Recording.{read_all, write_all}
use Rattle.frame.proofs.RecordingLaws.{read_back, write-append}
use Rattle.captures.specs.declared.pulses.Wire.{Wire}
use Rattle.captures.specs.Rule.{untouched}
use Rattle.captures.specs.declared.edges.Reader.{Reader}
use Rattle.captures.specs.Edges.{fresh_reader, taken_so_far, Reading, on_byte, fed_bytes, answers_of, feed_answer, feed_leaves}
use Rattle.captures.specs.Edges.{end_answer, end_leaves}
use Rattle.captures.proofs.EdgesLaws.{refused-stays, end-again}
use Rattle.capture_laws.specs.Capture.{EdgeCourse, course_of, capture, course_ended, FrameSound}
use Rattle.capture_laws.specs.Claims.{feeds, Filled, Closed}
use Rattle.capture_laws.specs.EndLaws.{end-closed, ended-writable}
use Rattle.capture_laws.specs.StepLaws.{blank-sound, course-kept}
use Rattle.capture_laws.specs.FillLaws.{holding, Came, fits, short, plain-course, piece-came, fill_holds}
use Rattle.capture_laws.specs.CutLaws.{course-on, course-stop, left-plain}
use Rattle.capture_laws.specs.Room.{Ample}
use Rattle.capture_laws.specs.RoomLaws.{ample-roomy}
use Rattle.capture_laws.specs.Taken.{Piece, in_one, after_piece, handed_of, handed, Roomy}

-- ## Cuts

pub any-cuts : (x : Reading) (ss : List (List ℕ)) → feeds x ss ≡ fed_bytes x.reader x.out (together ss)
unfolding feeds together fold
any-cuts x [] = refl
any-cuts x (s ∷ ss) = any-cuts (fed_bytes x.reader x.out s) ss ∙ sym (fold-append on_byte x s (together ss))

-- ## A whole capture in one buffer

sound-start : FrameSound untouched.frame
sound-start = blank-sound false

pub capture-came : (s out : List ℕ) → Came 0 out (capture s) (fed_bytes fresh_reader out s)
unfolding fold all
capture-came s out = piece-came s [] untouched 0 out refl sound-start (omega arith)

pub capture-found : (s out : List ℕ) → length (write_all (capture s).frames) ≤ length out
    → Filled 0 out (capture s) (fed_bytes fresh_reader out s)
capture-found s out room = by-case (capture-came s out)
  where
    by-case : Came 0 out (capture s) (fed_bytes fresh_reader out s)
        → Filled 0 out (capture s) (fed_bytes fresh_reader out s)
    by-case (fits h k) = k
    by-case (short h e) = absurd (omega arith)

pub capture-short : (s out : List ℕ) → length out < length (write_all (capture s).frames)
    → (feed_answer fresh_reader out s).refusal ≡ no_room
capture-short s out none = by-case (capture-came s out)
  where
    by-case : Came 0 out (capture s) (fed_bytes fresh_reader out s) → (feed_answer fresh_reader out s).refusal ≡ no_room
    by-case (fits h k) = absurd (omega arith)
    by-case (short h e) = e.refusal

-- what a piece left in its buffer
front_of : (out : List ℕ) (c : EdgeCourse) (x : Reading) → Filled 0 out c x
    → take x.reader.written x.out ≡ write_all c.frames
front_of out c x k =
    let n : x.reader.written ≡ length (write_all c.frames) = k.written ∙ omega arith in
    rw (n, k.laid_out) (laid-read out 0 (write_all c.frames) (omega arith))

pub capture-read : (s out : List ℕ) → length (write_all (capture s).frames) ≤ length out
    → read_all (take (feed_answer fresh_reader out s).written (feed_leaves fresh_reader out s))
    ≡ map carries (capture s).frames
capture-read s out room =
    rw (front_of out (capture s) (fed_bytes fresh_reader out s) (capture-found s out room))
    (read_back (course-kept untouched sound-start (lines_of s)).writable)

-- with an end, in a buffer with room for the last frame too
pub capture-ended : (s out : List ℕ) → length (write_all (capture s).frames) ≤ length out
    → length (write_all (course_ended (capture s)).frames) ≤ length out
    → let x = fed_bytes fresh_reader out s in Closed 0 out (course_ended (capture s)) (end_answer x.reader x.out)
    (end_leaves x.reader x.out)
capture-ended s out room last =
    end-closed 0 out (capture s) (fed_bytes fresh_reader out s) (capture-found s out room)
    (course-kept untouched sound-start (lines_of s)).last (omega arith)

pub ended-read : (s out : List ℕ) → length (write_all (capture s).frames) ≤ length out
    → length (write_all (course_ended (capture s)).frames) ≤ length out
    → let x = fed_bytes fresh_reader out s in read_all
    (take (end_answer x.reader x.out).written (end_leaves x.reader x.out))
    ≡ map carries (course_ended (capture s)).frames
ended-read s out room last =
    let k = capture-ended s out room last in
    let text = write_all (course_ended (capture s)).frames in
    let n : (end_answer (fed_bytes fresh_reader out s).reader (fed_bytes fresh_reader out s).out).written ≡ length text =
    k.written ∙ omega arith in
    rw (n, k.laid_out, laid-read out 0 text (omega arith))
    (read_back (ended-writable (capture s) (course-kept untouched sound-start (lines_of s))))

-- ## Refusals stay

pub refusal-stays : (r : Reader) → r.refusal ≢ accepted → (out s : List ℕ)
    → (feed_answer r out s ≡ answers_of r) × (feed_leaves r out s ≡ out) × (end_answer r out ≡ answers_of r)
    × (end_leaves r out ≡ out)
refusal-stays r h out s =
    let x : Reading = record { reader = r; out = out } in
    let same = refused-stays x h s in
    let again = end-again r out h in (
      ap (λ (y : Reading). answers_of y.reader) same,
      ap (λ (y : Reading). y.out) same,
      sym again.0,
      sym again.1,
    )

-- ## Bytes taken piece by piece

-- after a refusal nothing is handed over
handed-none : (r : Reader) → r.refusal ≢ accepted → r.written ≡ 0 → (ps : List Piece) → handed r ps ≡ []
unfolding handed
handed-none r h z [] = refl
handed-none r h z (p ∷ ps) =
    let same = refused-stays record { reader = r; out = p.buffer } h p.bytes in
    rw (same, z) (handed-none (taken_so_far r) h refl ps)

-- a first piece, where the theorem holds of those behind it
module _ (p : Piece) (ps : List Piece) (w : Wire) (u : List ℕ) (sound : FrameSound w.frame)
    (later : (v : Wire) (x : List ℕ) → all not_feed x ≡ true → FrameSound v.frame → Roomy (holding v x 0) ps
    → handed (holding v x 0) ps ≡ write_all (course_of v (lines_of (x ++ in_one ps))).frames) where
  abbrev first-course : EdgeCourse
  first-course = course_of w (lines_of (u ++ p.bytes))

  abbrev after_first : Reading
  after_first = fed_bytes (holding w u 0) p.buffer p.bytes

  abbrev Whole : Type 0
  Whole = handed_of (holding w u 0) p ++ handed (after_piece (holding w u 0) p) ps
      ≡ write_all (course_of w (lines_of (u ++ (p.bytes ++ in_one ps)))).frames

  module _ (k : Filled 0 p.buffer first-course after_first) where
    first-handed : handed_of (holding w u 0) p ≡ write_all first-course.frames
    first-handed = front_of p.buffer first-course after_first k

    taken-on : first-course.refusal ≡ accepted → Roomy (after_piece (holding w u 0) p) ps → Whole
    taken-on h roomy =
        let at = fill_holds 0 p.buffer first-course after_first k h in
        let next = later first-course.wire first-course.left (left-plain w (u ++ p.bytes) h)
        (course-kept w sound (lines_of (u ++ p.bytes))).last (rw at at roomy) in
        let more = course_of first-course.wire (lines_of (first-course.left ++ in_one ps)) in
        let all-frames : write_all (course_of w (lines_of (u ++ (p.bytes ++ in_one ps)))).frames
        ≡ write_all first-course.frames ++ write_all more.frames =
        ap (λ (t : List ℕ). write_all (course_of w (lines_of t)).frames) (sym (append_assoc u p.bytes (in_one ps)))
        ∙ ap (λ (c : EdgeCourse). write_all c.frames) (course-on w (u ++ p.bytes) (in_one ps) h)
        ∙ write-append first-course.frames more.frames in
        rw (first-handed, at, next) (sym all-frames)

    taken-stop : first-course.refusal ≢ accepted → Whole
    taken-stop h =
        let none = handed-none (after_piece (holding w u 0) p) (rw k.refusal h) refl ps in
        let all-frames : write_all (course_of w (lines_of (u ++ (p.bytes ++ in_one ps)))).frames
        ≡ write_all first-course.frames =
        ap (λ (t : List ℕ). write_all (course_of w (lines_of t)).frames) (sym (append_assoc u p.bytes (in_one ps)))
        ∙ ap (λ (c : EdgeCourse). write_all c.frames) (course-stop w (u ++ p.bytes) (in_one ps) h) in
        rw (first-handed, none) (append-nil (write_all first-course.frames) ∙ sym all-frames)

  taken-first : Came 0 p.buffer first-course after_first → Roomy (holding w u 0) (p ∷ ps) → Whole
  taken-first (short h e) roomy = absurd (roomy.0 e.refusal)
  taken-first (fits h k) roomy = by-test (eqb first-course.refusal accepted) refl
    where
      by-test : (t : Bool) → eqb first-course.refusal accepted ≡ t → Whole
      by-test true e = taken-on k (eqb-true first-course.refusal accepted e) roomy.1
      by-test false e = taken-stop k (eqb-false first-course.refusal accepted e)

taken-pieces : (ps : List Piece) (w : Wire) (u : List ℕ) → all not_feed u ≡ true → FrameSound w.frame
    → Roomy (holding w u 0) ps
    → handed (holding w u 0) ps ≡ write_all (course_of w (lines_of (u ++ in_one ps))).frames
unfolding handed in_one write_all
taken-pieces [] w u plain sound room = rw (append-nil u, plain-course w u plain) refl
taken-pieces (p ∷ ps) w u plain sound room =
    taken-first p ps w u sound (taken-pieces ps)
    (piece-came p.bytes u w 0 p.buffer plain sound (omega arith)) room

pub taken-whole : (ps : List Piece) → Roomy fresh_reader ps
    → handed fresh_reader ps ≡ write_all (capture (in_one ps)).frames
unfolding fold all
taken-whole ps room = taken-pieces ps untouched [] refl sound-start room

-- it is enough that each piece has room for its own bytes and 143 more
pub taken-ample : (ps : List Piece) → Ample ps → handed fresh_reader ps ≡ write_all (capture (in_one ps)).frames
taken-ample ps room = taken-whole ps (ample-roomy ps room)

pub taken-one-feed : (ps : List Piece) → Roomy fresh_reader ps → (out : List ℕ)
    → length (write_all (capture (in_one ps)).frames) ≤ length out
    → handed fresh_reader ps ≡ take (feed_answer fresh_reader out (in_one ps)).written
    (feed_leaves fresh_reader out (in_one ps))
taken-one-feed ps room out wide =
    taken-whole ps room ∙ sym (front_of out (capture (in_one ps)) (fed_bytes fresh_reader out (in_one ps))
    (capture-found (in_one ps) out wide))
