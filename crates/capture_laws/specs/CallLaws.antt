-- A waiting reader hands on the same for a piece, and for the end, whatever buffer it fills, and is the same after a
-- piece; after an accepted piece it waits again.
--     waiting-start          a reader before the first byte waits
--     piece-any, piece-on    a piece, whatever the buffer
--     piece-reader           the reader after a piece, also a refused one, whatever the buffer
--     end-any                the end, whatever the buffer
use Rattle.std.specs.Prelude.{ℕ, ◌+◌, ◌≤◌, ◌≡◌, refl, ◌≢◌, Bool, true, false, List, [], ◌++◌, eqb, length}
use Rattle.std.proofs.Math.Path.{sym}
use Rattle.std.proofs.Common.{ap, ◌∙◌, arith, eqb-true}
use Rattle.std.proofs.lemmas.Bool.{false≢true}
use Rattle.std.proofs.lemmas.List.{length-replicate}
use Rattle.basic_laws.specs.Fold.{fold, all}
use Rattle.refusals.specs.Refusals.{accepted, no_room}
use Rattle.text.specs.Lines.{not_feed, lines_of}
use Rattle.captures.specs.declared.pulses.Wire.{Wire}
use Rattle.captures.specs.declared.edges.Reader.{Reader}
use Rattle.captures.specs.declared.edges.Answer.{Answer}
use Rattle.captures.specs.Edges.{fresh_reader, fed_bytes, feed_answer, feed_leaves, end_answer, end_leaves}
use Rattle.captures.specs.Edges.{taken_so_far}
use Rattle.captures.specs.EdgePrinting.{printed_for}
use Rattle.capture_laws.specs.Capture.{EdgeCourse, course_of, FrameSound}
use Rattle.capture_laws.specs.StepLaws.{blank-sound, course-kept}
use Rattle.capture_laws.specs.Claims.{Filled}
use Rattle.capture_laws.specs.FillLaws.{holding, Came, fits, short, piece-came, fill_holds}
use Rattle.capture_laws.specs.CutLaws.{left-plain}
use Rattle.capture_laws.specs.RoomLaws.{room-enough}
use Rattle.capture_laws.specs.SameLaws.{same-reader}
use Rattle.capture_laws.specs.Transcript.{text_of, handed_on, enough_room, Waiting, just_room, piece_text, piece_after}
use Rattle.capture_laws.specs.Transcript.{end_text}
use Rattle.capture_laws.specs.TranscriptLaws.{handed-text, end-text}

pub waiting-start : Waiting fresh_reader
unfolding fold all
waiting-start = record { left = []; plain = refl; sound = blank-sound false; is = refl }

-- a piece behind unfinished characters
module _ (w : Wire) (u s : List ℕ) (plain : all not_feed u ≡ true) (sound : FrameSound w.frame) where
  abbrev course : EdgeCourse
  course = course_of w (lines_of (u ++ s))

  module _ (out : List ℕ) (room : enough_room + length s ≤ length out) where
    filled : Filled 0 out course (fed_bytes (holding w u 0) out s)
    filled = by-came (piece-came s u w 0 out plain sound (omega arith))
      where
        by-came : Came 0 out course (fed_bytes (holding w u 0) out s)
            → Filled 0 out course (fed_bytes (holding w u 0) out s)
        by-came (short h e) = let enough = room-enough w sound u s plain in absurd (omega arith)
        by-came (fits h k) = k

    text : handed_on (feed_answer (holding w u 0) out s) (feed_leaves (holding w u 0) out s) ≡ text_of course
    text =
        let k = filled in
        let enough = room-enough w sound u s plain in
        handed-text (feed_answer (holding w u 0) out s) (feed_leaves (holding w u 0) out s) out course k.refusal
        (k.written ∙ omega arith) k.laid_out
        (course-kept w sound (lines_of (u ++ s))).small (omega arith)

    roomless : (fed_bytes (holding w u 0) out s).reader.refusal ≢ no_room
    roomless e = let k = filled in (course-kept w sound (lines_of (u ++ s))).roomless (sym k.refusal ∙ e)

    goes_on : (feed_answer (holding w u 0) out s).refusal ≡ accepted
        → taken_so_far (feed_answer (holding w u 0) out s).reader ≡ holding course.wire course.left 0
    goes_on h = let k = filled in fill_holds 0 out course (fed_bytes (holding w u 0) out s) k (sym k.refusal ∙ h)

  waits : course.refusal ≡ accepted → Waiting (holding course.wire course.left 0)
  waits h = record {
    left = course.left;
    plain = left-plain w (u ++ s) h;
    sound = (course-kept w sound (lines_of (u ++ s))).last;
    is = refl;
  }

-- an answer that goes on was accepted
accepted-on : (a : Answer) (l : List ℕ) → (printed_for a l).going ≡ true → a.refusal ≡ accepted
accepted-on a l on = by-test (eqb a.refusal accepted) refl
  where
    by-test : (t : Bool) → eqb a.refusal accepted ≡ t → a.refusal ≡ accepted
    by-test true e = eqb-true a.refusal accepted e
    by-test false e = let off : (printed_for a l).going ≡ false = rw e refl in absurd (false≢true (sym off ∙ on))

-- accepted or not, its reader goes on from the front of the buffer
reader-on : (a : Answer) (l : List ℕ) → (printed_for a l).reader ≡ taken_so_far a.reader
reader-on a l = by-test (eqb a.refusal accepted) refl
  where
    by-test : (t : Bool) → eqb a.refusal accepted ≡ t → (printed_for a l).reader ≡ taken_so_far a.reader
    by-test true e = rw e refl
    by-test false e = rw e refl

just-room : (s : List ℕ) → enough_room + length s ≤ length (just_room s)
just-room s = let e = length-replicate {0} {A = ℕ} (enough_room + length s) 0 in omega arith

module _ (r : Reader) (waiting : Waiting r) where
  module _ (s out : List ℕ) (room : enough_room + length s ≤ length out) where
    pub piece-any : handed_on (feed_answer r out s) (feed_leaves r out s) ≡ piece_text r s
    unfolding piece_text
    piece-any =
        let w = r.wire in
        let u = waiting.left in
        rw waiting.is (text w u s waiting.plain waiting.sound out room
        ∙ sym (text w u s waiting.plain waiting.sound (just_room s) (just-room s)))

    pub piece-reader : (printed_for (feed_answer r out s) (feed_leaves r out s)).reader ≡ piece_after r s
    unfolding piece_after
    piece-reader =
        let w = r.wire in
        let u = waiting.left in
        let mine : (fed_bytes r out s).reader.refusal ≢ no_room =
        rw waiting.is (roomless w u s waiting.plain waiting.sound out room) in
        let just : (fed_bytes r (just_room s) s).reader.refusal ≢ no_room =
        rw waiting.is (roomless w u s waiting.plain waiting.sound (just_room s) (just-room s)) in
        reader-on (feed_answer r out s) (feed_leaves r out s)
        ∙ ap taken_so_far (same-reader s r out (just_room s) mine just)

    pub piece-on : (printed_for (feed_answer r out s) (feed_leaves r out s)).going ≡ true →
        let next = (printed_for (feed_answer r out s) (feed_leaves r out s)).reader in
        (next ≡ piece_after r s) × Waiting next
    piece-on on =
        let w = r.wire in
        let u = waiting.left in
        let a = feed_answer r out s in
        let h = accepted-on a (feed_leaves r out s) on in
        let g : (feed_answer (holding w u 0) out s).refusal ≡ accepted = rw (← waiting.is) h in
        let k = filled w u s waiting.plain waiting.sound out room in
        let here : taken_so_far (feed_answer r out s).reader
        ≡ holding (course w u s waiting.plain waiting.sound).wire
        (course w u s waiting.plain waiting.sound).left 0 =
        rw waiting.is (goes_on w u s waiting.plain waiting.sound out room g) in (
          piece-reader,
          rw (reader-on a (feed_leaves r out s), here)
              (waits w u s waiting.plain waiting.sound (sym k.refusal ∙ g)),
        )

  pub end-any : (out : List ℕ) → enough_room ≤ length out → handed_on (end_answer r out) (end_leaves r out) ≡ end_text r
  unfolding end_text
  end-any out room =
      let w = r.wire in
      let u = waiting.left in
      rw waiting.is (end-text w u out waiting.sound room
      ∙ sym (end-text w u (just_room []) waiting.sound (just-room [])))
