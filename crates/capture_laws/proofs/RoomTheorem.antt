-- The claim of buffers of any length: what a reader holds is what fits, after pieces and after an end.
--     room-claim
use Rattle.std.specs.Prelude.{ℕ, ◌+◌, ◌-◌, ◌<◌, ◌≤◌, ◌≡◌, refl, Bool, true, false, List, [], ◌∷◌, leb, length}
use Rattle.std.proofs.Common.{sym, ap, ◌∙◌, arith, le-leb, leb-true, leb-false, length-append}
use Rattle.std.proofs.lemmas.Bool.{lt-leb}
use Rattle.basic_laws.specs.Laid.{laid}
use Rattle.refusals.specs.Refusals.{accepted, no_room}
use Rattle.text.specs.Lines.{lines_of}
use Rattle.pieces.specs.Pieces.{together}
use Rattle.frame.specs.Recording.{write_all}
use Rattle.frame.proofs.RecordingLaws.{write-append}
use Rattle.captures.specs.Rule.{untouched}
use Rattle.captures.specs.declared.edges.Answer.{Answer}
use Rattle.captures.specs.Edges.{fresh_reader, refused_with, Reading, fed_bytes, answers_of, end_answer, end_leaves}
use Rattle.captures.proofs.EdgesLaws.{end-again}
use Rattle.capture_laws.specs.Capture.{EdgeCourse, capture, course_ended, FrameSound}
use Rattle.capture_laws.specs.Claims.{Filled}
use Rattle.capture_laws.specs.StepLaws.{blank-sound, course-kept}
use Rattle.capture_laws.specs.Fitting.{fitting, HeldIn, RoomClaim, fed_in}
use Rattle.capture_laws.specs.FittingLaws.{fitting-longest, fitting-stop, fitting-last}
use Rattle.capture_laws.specs.FillLaws.{Shortened, Came, fits, short}
use Rattle.capture_laws.specs.EndLaws.{end-closed, end_short, ended-behind}
use Rattle.capture_laws.proofs.Theorem.{any-cuts, capture-came}

-- the room in a buffer from its front on
abbrev room_in : List ℕ → ℕ
room_in out = length out - 0

module _ (out : List ℕ) (c : EdgeCourse) (a : Answer) (l : List ℕ) where
  -- all frames fit
  all_held : length (write_all c.frames) ≤ length out → a.refusal ≡ c.refusal
      → a.written ≡ 0 + length (write_all c.frames)
      → l ≡ laid out 0 (write_all c.frames) → HeldIn 0 out c a l
  all_held h r w o =
      let wide : length (write_all c.frames) ≤ room_in out = omega arith in
      let all_fit = le-leb (length (write_all c.frames)) (room_in out) wide in
      record { refusal = rw all_fit r; written = rw all_fit w; laid_out = rw all_fit o }

  -- or not
  front-held : length out < length (write_all c.frames) → a.refusal ≡ no_room
      → a.written ≡ 0 + length (write_all (fitting (room_in out) c.frames))
      → l ≡ laid out 0 (write_all (fitting (room_in out) c.frames)) → HeldIn 0 out c a l
  front-held h r w o =
      let past : room_in out < length (write_all c.frames) = omega arith in
      let not-all = lt-leb (length (write_all c.frames)) (room_in out) past in
      record { refusal = rw not-all r; written = rw not-all w; laid_out = rw not-all o }

-- ## After pieces

came_held : (out : List ℕ) (c : EdgeCourse) (x : Reading) → Came 0 out c x
    → HeldIn 0 out c (answers_of x.reader) x.out
came_held out c x (fits h k) = all_held out c (answers_of x.reader) x.out (omega arith) k.refusal k.written
    k.laid_out
came_held out c x (short h e) = front-held out c (answers_of x.reader) x.out (omega arith) e.refusal
    e.written
    e.laid_out

fed-in : (out : List ℕ) (ss : List (List ℕ)) → fed_in out ss ≡ fed_bytes fresh_reader out (together ss)
fed-in out ss = any-cuts record { reader = fresh_reader; out = out } ss

fed-held : (out : List ℕ) (ss : List (List ℕ)) → let x =
    fed_in out ss in HeldIn 0 out (capture (together ss)) (answers_of x.reader) x.out
fed-held out ss =
    rw (fed-in out ss) (came_held out (capture (together ss)) (fed_bytes fresh_reader out (together ss))
    (capture-came (together ss) out))

-- ## After an end

-- the frames with the last one are no fewer bytes
ended-more : (c : EdgeCourse) → length (write_all c.frames) ≤ length (write_all (course_ended c).frames)
ended-more c =
    let one = c.wire.frame ∷ [] in
    let sum = ap length (write-append c.frames one) ∙ length-append (write_all c.frames) (write_all one) in
    ended-behind c (λ fs. length (write_all c.frames) ≤ length (write_all fs)) (omega arith) (omega arith)

module _ (s out : List ℕ) where
  abbrev found : EdgeCourse
  found = capture s

  abbrev after : Reading
  after = fed_bytes fresh_reader out s

  abbrev Ended : Type 0
  Ended = HeldIn 0 out (course_ended found) (end_answer after.reader after.out)
      (end_leaves after.reader after.out)

  abbrev room : ℕ
  room = room_in out

  last-sound : FrameSound found.wire.frame
  last-sound = (course-kept untouched (blank-sound false) (lines_of s)).last

  -- all frames of the pieces were held
  filled-ended : length (write_all found.frames) ≤ length out → Filled 0 out found after → Ended
  filled-ended h k = by-room (leb (length (write_all (course_ended found).frames)) (length out)) refl
    where
      by-room : (t : Bool) → leb (length (write_all (course_ended found).frames)) (length out) ≡ t → Ended
      by-room true e =
          let wide = leb-true (length (write_all (course_ended found).frames)) (length out) e in
          let closed = end-closed 0 out found after k last-sound (omega arith) in
          all_held out (course_ended found) (end_answer after.reader after.out)
          (end_leaves after.reader after.out) wide
          closed.refusal closed.written closed.laid_out
      by-room false e =
          let past = leb-false (length (write_all (course_ended found).frames)) (length out) e in
          let stays = end_short 0 out found after k last-sound (omega arith) (omega arith) in
          let all_but_last : room < length (write_all (course_ended found).frames)
          → fitting room (course_ended found).frames ≡ found.frames =
          ended-behind found (λ fs. room < length (write_all fs) → fitting room fs ≡ found.frames)
          (λ z. absurd (omega arith)) (λ z. fitting-last room found.frames found.wire.frame (omega arith) z) in
          let same = all_but_last (omega arith) in
          rw (stays.0, stays.1)
          (front-held out (course_ended found) (answers_of (refused_with after.reader no_room)) after.out past refl
          (rw same k.written) (rw same k.laid_out))

  -- some were not
  short-ended : length out < length (write_all found.frames) → Shortened 0 out found after → Ended
  short-ended h e =
      let again = end-again after.reader after.out
      (λ z. let one : no_room ≡ accepted = sym e.refusal ∙ z in omega arith) in
      let more = ended-more found in
      let same = ended-behind found (λ fs. fitting room fs ≡ fitting room found.frames) refl
      (fitting-stop room found.frames (found.wire.frame ∷ []) (omega arith)) in
      rw (← again.0, ← again.1)
      (front-held out (course_ended found) (answers_of after.reader) after.out (omega arith) e.refusal
      (rw same e.written) (rw same e.laid_out))

  came-ended : Came 0 out found after → Ended
  came-ended (fits h k) = filled-ended (omega arith) k
  came-ended (short h e) = short-ended (omega arith) e

ended-as : {out : List ℕ} {c : EdgeCourse} {x y : Reading} → x ≡ y
    → HeldIn 0 out c (end_answer y.reader y.out) (end_leaves y.reader y.out)
    → HeldIn 0 out c (end_answer x.reader x.out) (end_leaves x.reader x.out)
ended-as e held = rw e held

ends_held : (out : List ℕ) (ss : List (List ℕ)) → let x = fed_in out ss in
    HeldIn 0 out (course_ended (capture (together ss))) (end_answer x.reader x.out) (end_leaves x.reader x.out)
ends_held out ss = ended-as (fed-in out ss) (came-ended (together ss) out (capture-came (together ss) out))

pub room-claim : RoomClaim
room-claim = record { longest = fitting-longest; fed = fed-held; ends = ends_held }
