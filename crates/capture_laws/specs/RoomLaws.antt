-- A piece with that much room is never refused for want of it. A line of the capture is nine bytes where it moves the
-- rule, and lets the line of the open frame grow by less; an unfinished line of more than eight characters will be
-- refused, and closes nothing.
--     course-room            the frames of lines take no more than the line of the open frame and the bytes of the
--                            lines
--     room-enough            so those of a piece behind unfinished characters
--     ample-roomy            the theorem
use Rattle.std.specs.Prelude.{ℕ, ◌+◌, ◌<◌, ◌≤◌, ◌≡◌, refl, ◌≢◌, Bool, true, false, not, List, [], ◌∷◌, ◌++◌, eqb, leb, length}
use Rattle.std.proofs.Common.{ap, ◌∙◌, append_assoc, append-nil, arith, eqb-true, ne_eqb, leb-true, leb-false, length-append}
use Rattle.std.proofs.lemmas.Bool.{eqb-false}
use Rattle.std.specs.Prelude.{if◌then◌else◌}
use Rattle.basic_laws.specs.Fold.{fold, all}
use Rattle.basic_laws.specs.FoldLaws.{all_append}
use Rattle.refusals.specs.Refusals.{accepted, no_room, not_hex, malformed}
use Rattle.text.specs.Digits.{spells, number_in}
use Rattle.text.specs.Lines.{Line, line_feed, not_feed, lines_of, lines_bytes}
use Rattle.text.specs.LinesLaws.{lines-bytes}
use Rattle.frame.specs.Writing.{fed_line}
use Rattle.frame.proofs.WritingLaws.{lineable-count, fed-length}
use Rattle.frame.specs.Recording.{write_all}
use Rattle.captures.specs.declared.pulses.Wire.{Wire}
use Rattle.captures.specs.Rule.{untouched, refuses, edge_step}
use Rattle.captures.specs.Partial.{time_digits}
use Rattle.captures.specs.declared.edges.Reader.{Reader}
use Rattle.captures.specs.Edges.{fresh_reader, taken_so_far, Reading, fed_bytes}
use Rattle.captures.proofs.EdgesLaws.{refused-stays}
use Rattle.capture_laws.specs.Capture.{line_step, EdgeCourse, course_stopped, closing, course_onward, course_of}
use Rattle.capture_laws.specs.Capture.{FrameSound}
use Rattle.capture_laws.specs.StepLaws.{blank-sound, open_bytes, Fair, line-fair, course-kept}
use Rattle.capture_laws.specs.FillLaws.{holding, Came, fits, short, plain-course, feed-first, piece-came}
use Rattle.capture_laws.specs.FillLaws.{fill_holds}
use Rattle.capture_laws.specs.CutLaws.{left-plain}
use Rattle.capture_laws.specs.Taken.{Piece, after_piece, Roomy}
use Rattle.capture_laws.specs.Room.{piece_room, Ample}

-- a line that moves the rule has eight characters
line-eight : (w : Wire) (cs : List ℕ) → (line_step w cs).refusal ≡ accepted → length cs ≡ time_digits
line-eight w cs = by_digits (spells 16 cs)
  where
    by_length : (t : Bool) → eqb (length cs) time_digits ≡ t
        → (if not t then refuses w malformed else edge_step w (number_in 16 cs)).refusal ≡ accepted
        → length cs ≡ time_digits
    by_length true e h = eqb-true (length cs) time_digits e
    by_length false e h = absurd (omega arith)

    by_digits : (t : Bool)
        → (if not t then refuses w not_hex else if not (eqb (length cs) time_digits) then refuses w malformed
        else edge_step w (number_in 16 cs)).refusal ≡ accepted
        → length cs ≡ time_digits
    by_digits true h = by_length (eqb (length cs) time_digits) refl h
    by_digits false h = absurd (omega arith)

-- one line with its feed, and the frames behind it
onward-room : (w : Wire) (cs : List ℕ) (c : EdgeCourse) (n : ℕ) → Fair w (line_step w cs)
    → length (write_all c.frames) ≤ open_bytes (line_step w cs).wire + n
    → length (write_all (course_onward w (line_step w cs) c).frames) ≤ open_bytes w + (length (cs ++ (line_feed ∷ [])) + n)
unfolding write_all
onward-room w cs c n fair h = by-refusal (eqb (line_step w cs).refusal accepted) refl
  where
    by-closes : (t : Bool) → (line_step w cs).closes ≡ t → length cs ≡ time_digits
        → length (write_all (if t then closing w.frame c else c).frames) ≤ open_bytes w
        + (length (cs ++ (line_feed ∷ [])) + n)
    by-closes true e eight =
        let size = length-append cs (line_feed ∷ []) in
        let sum = length-append (fed_line w.frame) (write_all c.frames) in
        let grown : open_bytes w + open_bytes (line_step w cs).wire ≤ open_bytes w + 9 = rw e at fair.grows in
        omega arith
    by-closes false e eight =
        let size = length-append cs (line_feed ∷ []) in
        let grown : 0 + open_bytes (line_step w cs).wire ≤ open_bytes w + 9 = rw e at fair.grows in
        omega arith

    by-refusal : (t : Bool) → eqb (line_step w cs).refusal accepted ≡ t
        → length (write_all (if not t then course_stopped w (line_step w cs).refusal [] else if (line_step w cs).closes
        then closing w.frame c else c).frames) ≤ open_bytes w + (length (cs ++ (line_feed ∷ [])) + n)
    by-refusal true e = by-closes (line_step w cs).closes refl
        (line-eight w cs (eqb-true (line_step w cs).refusal accepted e))
    by-refusal false e = omega arith

pub course-room : (w : Wire) → FrameSound w.frame → (ls : List Line)
    → length (write_all (course_of w ls).frames) ≤ open_bytes w + length (lines_bytes ls)
unfolding course_of write_all lines_bytes
course-room w sound [] = omega arith
course-room w sound (l ∷ ls) =
    let fair = line-fair w sound l.chars in
    by-feed l.fed (onward-room w l.chars (course_of (line_step w l.chars).wire ls) (length (lines_bytes ls)) fair
    (course-room (line_step w l.chars).wire fair.sound ls))
  where
    by-feed : (t : Bool)
        → length (write_all (course_onward w (line_step w l.chars) (course_of (line_step w l.chars).wire ls)).frames)
        ≤ open_bytes w + (length (l.chars ++ (line_feed ∷ [])) + length (lines_bytes ls))
        → length (write_all (if t then course_onward w (line_step w l.chars)
        (course_of (line_step w l.chars).wire ls) else course_stopped w accepted l.chars).frames)
        ≤ open_bytes w + length ((if t then l.chars ++ (line_feed ∷ []) else l.chars) ++ lines_bytes ls)
    by-feed true h = let sum = length-append (l.chars ++ (line_feed ∷ [])) (lines_bytes ls) in omega arith
    by-feed false h = omega arith

-- an unfinished line that is too long closes nothing
long-refused : (w : Wire) (u : List ℕ) (c : EdgeCourse) → 8 < length u → (course_onward w (line_step w u) c).frames ≡ []
long-refused w u c long =
    let none : (line_step w u).refusal ≢ accepted = λ z. let eight = line-eight w u z in omega arith in
    rw (ne_eqb (line_step w u).refusal accepted none) refl

long-none : (s u : List ℕ) (w : Wire) → all not_feed u ≡ true → 8 < length u → (course_of w (lines_of (u ++ s))).frames ≡ []
unfolding all
long-none [] u w plain long = rw (append-nil u, plain-course w u plain) refl
long-none (c ∷ s) u w plain long = by-feed (eqb c line_feed) refl (long-none s (u ++ (c ∷ [])) w)
  where
    by-feed : (t : Bool) → eqb c line_feed ≡ t
        → (all not_feed (u ++ (c ∷ [])) ≡ true → 8 < length (u ++ (c ∷ []))
        → (course_of w (lines_of ((u ++ (c ∷ [])) ++ s))).frames ≡ [])
        → (course_of w (lines_of (u ++ c ∷ s))).frames ≡ []
    by-feed true e more =
        let feed = eqb-true c line_feed e in
        rw (feed, feed-first u s w plain) (long-refused w u (course_of (line_step w u).wire (lines_of s)) long)
    by-feed false e more =
        let other : not_feed c ≡ true = ap not e in
        let still : all not_feed (u ++ (c ∷ [])) ≡ true = all_append not_feed u (c ∷ []) ∙ rw (plain, other) refl in
        let size = length-append u (c ∷ []) in
        rw (append_assoc u (c ∷ []) s) at (more still (omega arith))

pub room-enough : (w : Wire) → FrameSound w.frame → (u s : List ℕ) → all not_feed u ≡ true
    → length (write_all (course_of w (lines_of (u ++ s))).frames) ≤ piece_room + length s
unfolding write_all
room-enough w sound u s plain = by_length (leb (length u) 8) refl
  where
    by_length : (t : Bool) → leb (length u) 8 ≡ t
        → length (write_all (course_of w (lines_of (u ++ s))).frames) ≤ piece_room + length s
    by_length true e =
        let few = leb-true (length u) 8 e in
        let most = lineable-count w.frame sound.carried in
        let size = fed-length w.frame sound.held.size sound.carried in
        let all-bytes : length (lines_bytes (lines_of (u ++ s))) ≡ length u + length s =
        ap length (lines-bytes (u ++ s)) ∙ length-append u s in
        let bound = course-room w sound (lines_of (u ++ s)) in
        omega arith
    by_length false e = let none = long-none s u w plain (leb-false (length u) 8 e) in rw none (omega arith)

-- ## Pieces one after the other

stopped-roomy : (r : Reader) → r.refusal ≢ accepted → r.refusal ≢ no_room → (ps : List Piece) → Roomy r ps
stopped-roomy r h k [] = tt
stopped-roomy r h k (p ∷ ps) =
    let same = refused-stays record { reader = r; out = p.buffer } h p.bytes in
    rw same (k, stopped-roomy (taken_so_far r) h k ps)

-- a first piece, where the theorem holds of those behind it
module _ (p : Piece) (ps : List Piece) (w : Wire) (u : List ℕ) (plain : all not_feed u
    ≡ true) (sound : FrameSound w.frame) (room : piece_room + length p.bytes ≤ length p.buffer)
    (later : (v : Wire) (x : List ℕ) → all not_feed x ≡ true → FrameSound v.frame → Roomy (holding v x 0) ps) where
  abbrev first-course : EdgeCourse
  first-course = course_of w (lines_of (u ++ p.bytes))

  abbrev after_first : Reading
  after_first = fed_bytes (holding w u 0) p.buffer p.bytes

  first-roomy : Came 0 p.buffer first-course after_first → Roomy (holding w u 0) (p ∷ ps)
  first-roomy (short h e) = let enough = room-enough w sound u p.bytes plain in absurd (omega arith)
  first-roomy (fits h k) = (
    rw k.refusal (course-kept w sound (lines_of (u ++ p.bytes))).roomless,
    by-test (eqb first-course.refusal accepted) refl,
  )
    where
      by-test : (t : Bool) → eqb first-course.refusal accepted ≡ t → Roomy (after_piece (holding w u 0) p) ps
      by-test true e =
          let well = eqb-true first-course.refusal accepted e in
          rw (fill_holds 0 p.buffer first-course after_first k well)
          (later first-course.wire first-course.left (left-plain w (u ++ p.bytes) well)
          (course-kept w sound (lines_of (u ++ p.bytes))).last)
      by-test false e =
          stopped-roomy (after_piece (holding w u 0) p) (rw k.refusal (eqb-false first-course.refusal accepted e))
          (rw k.refusal (course-kept w sound (lines_of (u ++ p.bytes))).roomless) ps

pieces-roomy : (ps : List Piece) (w : Wire) (u : List ℕ) → all not_feed u ≡ true → FrameSound w.frame → Ample ps
    → Roomy (holding w u 0) ps
pieces-roomy [] w u plain sound room = tt
pieces-roomy (p ∷ ps) w u plain sound room =
    first-roomy p ps w u plain sound room.0 (λ v x plain' sound'. pieces-roomy ps v x plain' sound' room.1)
    (piece-came p.bytes u w 0 p.buffer plain sound (omega arith))

pub ample-roomy : (ps : List Piece) → Ample ps → Roomy fresh_reader ps
unfolding fold all
ample-roomy ps room = pieces-roomy ps untouched [] refl (blank-sound false) room
