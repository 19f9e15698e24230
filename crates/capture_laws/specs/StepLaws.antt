-- What every step keeps. A frame on the way is sound: a blank one is, a slot keeps it so, and nothing else changes one;
-- so all frames of a course can be written. The line of the open frame grows by less than the nine bytes that a line of
-- the capture has, and a reset leaves seven for it. No step is refused with 1, which is for lack of room, and each
-- refusal is a byte.
--     Fair w s               all this of what a step s makes of the line w
--     line-fair              every line makes a fair step
--     Kept c, course-kept    the frames of a course can be written, and that which is open is sound; its refusal is not
--                            1
use Rattle.std.specs.Prelude.{ℕ, ◌+◌, ◌-◌, ◌<◌, ◌≤◌, ◌≡◌, refl, ◌≢◌, Bool, true, false, not, ◌&&◌, List, [], ◌∷◌, eqb, leb, ltb, length}
use Rattle.std.proofs.Common.{arith, ltb-true}
use Rattle.std.specs.Prelude.{if◌then◌else◌}
use Rattle.basic_laws.specs.ChoiceLaws.{and_left, and_right}
use Rattle.refusals.specs.Refusals.{accepted, no_room, not_hex, malformed, bad_pulse, not_later}
use Rattle.text.specs.Digits.{spells, number_in}
use Rattle.text.specs.Lines.{Line}
use Rattle.frame.specs.Frames.{most_slots, blank_frame, pushed}
use Rattle.frame.specs.FramesLaws.{blank-held, blank-lineable, push-count, push-held, push-lineable}
use Rattle.frame.specs.Writing.{fed_line}
use Rattle.frame.proofs.WritingLaws.{fed-length}
use Rattle.frame.specs.Recording.{Writable, none, one}
use Rattle.captures.specs.declared.pulses.Pulse.{Pulse}
use Rattle.captures.specs.declared.pulses.Pulse.TheVariants.{One, Zero, Reset, Other}
use Rattle.captures.specs.declared.pulses.PulseStage.{PulseStage}
use Rattle.captures.specs.declared.pulses.PulseStage.TheVariants.{Idle, FirstLow, Released, Presence, High, Low}
use Rattle.captures.specs.declared.pulses.Wire.{Wire}
use Rattle.captures.specs.declared.pulses.Step.{Step}
use Rattle.captures.specs.Bounds.{is_reset, is_wait, is_silence, is_presence, pulse_of}
use Rattle.captures.specs.Rule.{begun, goes, refuses, moves, restarts, takes_slot, after_low, after_level, edge_step}
use Rattle.captures.specs.Partial.{time_digits}
use Rattle.capture_laws.specs.Capture.{line_step, EdgeCourse, closing, course_onward, course_of, course_stopped}
use Rattle.capture_laws.specs.Capture.{FrameSound}

-- a blank frame
pub blank-sound : (p : Bool) → FrameSound (blank_frame p)
blank-sound p = record { held = blank-held p; carried = blank-lineable p }

blank-seven : (p : Bool) → length (fed_line (blank_frame p)) ≡ 7
blank-seven p = fed-length (blank_frame p) (blank-held p).size (blank-lineable p)

-- the bytes of the line of the frame that is open
abbrev pub open_bytes : Wire → ℕ
open_bytes w = length (fed_line w.frame)

-- the bytes that a step lays
abbrev pub closed_bytes : Wire → Step → ℕ
closed_bytes w s = if s.closes then open_bytes w else 0

pub record Fair (w : Wire) (s : Step) : Type 0 where
  pub sound : FrameSound s.wire.frame
  pub grows : closed_bytes w s + open_bytes s.wire ≤ open_bytes w + 9
  pub roomless : s.refusal ≢ no_room
  pub small : s.refusal < 256

chosen : (w : Wire) (t : Bool) (a b : Step) → Fair w a → Fair w b → Fair w (if t then a else b)
chosen w true a b p q = p
chosen w false a b p q = q

module _ (w : Wire) (sound : FrameSound w.frame) (t : ℕ) where
  refuses-fair : (n : ℕ) → n ≢ no_room → n < 256 → Fair w (refuses w n)
  refuses-fair n h k = record { sound = sound; grows = omega arith; roomless = h; small = k }

  pulse-refused : Fair w (refuses w bad_pulse)
  pulse-refused = refuses-fair bad_pulse (λ z. omega arith) (omega arith)

  moves-fair : (s : PulseStage) → Fair w (moves w s t)
  moves-fair s = record { sound = sound; grows = omega arith; roomless = λ z. omega arith; small = omega arith }

  blank-fair : (s : PulseStage) (p : Bool) → Fair w (goes s t (blank_frame p))
  blank-fair s p = let seven = blank-seven p in
      record { sound = blank-sound p; grows = omega arith; roomless = λ z. omega arith; small = omega arith }

  restarts-fair : (c : Bool) → Fair w (restarts t c)
  restarts-fair true = let seven = blank-seven false in
      record { sound = blank-sound false; grows = omega arith; roomless = λ z. omega arith; small = omega arith }
  restarts-fair false = let seven = blank-seven false in
      record { sound = blank-sound false; grows = omega arith; roomless = λ z. omega arith; small = omega arith }

  pushed-fair : (b : Bool) → w.frame.presence ≡ true → w.frame.count < most_slots
      → Fair w (goes High t (pushed w.frame b))
  pushed-fair b shown room =
      let f = w.frame in
      let more : FrameSound (pushed f b) =
      record {
        held = push-held f b sound.held room;
        carried = push-lineable f b sound.held room shown sound.carried;
      } in
      let before = fed-length f sound.held.size sound.carried in
      let after = fed-length (pushed f b) more.held.size more.carried in
      let count = push-count f b sound.held room in
      record { sound = more; grows = omega arith; roomless = λ z. omega arith; small = omega arith }

  slot-fair : (b : Bool) → Fair w (takes_slot w t b)
  slot-fair b = by-test (w.frame.presence && ltb w.frame.count most_slots) refl
    where
      by-test : (u : Bool) → (w.frame.presence && ltb w.frame.count most_slots) ≡ u
          → Fair w (if u then goes High t (pushed w.frame b) else refuses w malformed)
      by-test true e =
          pushed-fair b (and_left w.frame.presence (ltb w.frame.count most_slots) e)
          (ltb-true w.frame.count most_slots (and_right w.frame.presence (ltb w.frame.count most_slots) e))
      by-test false e = refuses-fair malformed (λ z. omega arith) (omega arith)

  low-fair : (p : Pulse) → Fair w (after_low w t p)
  low-fair One = slot-fair true
  low-fair Zero = slot-fair false
  low-fair Reset = restarts-fair true
  low-fair Other = pulse-refused

  level-fair : (s : PulseStage) (d : ℕ) → Fair w (after_level s w t d)
  level-fair Idle d = moves-fair FirstLow
  level-fair FirstLow d = chosen w (is_reset d) (restarts t false) (refuses w bad_pulse) (restarts-fair false)
      pulse-refused
  level-fair Released d =
      chosen w (is_wait d) (moves w Presence t) (if is_silence d then moves w Low t
      else refuses w bad_pulse) (moves-fair Presence)
      (chosen w (is_silence d) (moves w Low t) (refuses w bad_pulse) (moves-fair Low) pulse-refused)
  level-fair Presence d = chosen w (is_presence d) (goes High t (blank_frame true)) (refuses w bad_pulse)
      (blank-fair High true) pulse-refused
  level-fair High d = moves-fair Low
  level-fair Low d = low-fair (pulse_of d)

  edge-fair : Fair w (edge_step w t)
  edge-fair =
      chosen w (begun w.stage && leb t w.last) (refuses w not_later) (after_level w.stage w t (t - w.last))
      (refuses-fair not_later (λ z. omega arith) (omega arith))
      (level-fair w.stage (t - w.last))

pub line-fair : (w : Wire) → FrameSound w.frame → (cs : List ℕ) → Fair w (line_step w cs)
line-fair w sound cs =
    chosen w (not (spells 16 cs)) (refuses w not_hex) (if not (eqb (length cs) time_digits) then refuses w malformed
    else edge_step w (number_in 16 cs))
    (refuses-fair w sound 0 not_hex (λ z. omega arith) (omega arith))
    (chosen w (not (eqb (length cs) time_digits)) (refuses w malformed) (edge_step w (number_in 16 cs))
    (refuses-fair w sound 0 malformed (λ z. omega arith) (omega arith)) (edge-fair w sound (number_in 16 cs)))

-- what is known of a course
pub record Kept (c : EdgeCourse) : Type 0 where
  pub writable : Writable c.frames
  pub last : FrameSound c.wire.frame
  pub roomless : c.refusal ≢ no_room
  pub small : c.refusal < 256

onward-kept : (w : Wire) → FrameSound w.frame → (s : Step) → Fair w s → (c : EdgeCourse) → Kept c
    → Kept (course_onward w s c)
onward-kept w sound s fair c k = by-test (not (eqb s.refusal accepted)) s.closes
  where
    by-test : (t u : Bool) → Kept (if t then course_stopped w s.refusal [] else if u then closing w.frame c else c)
    by-test true u = record { writable = none; last = sound; roomless = fair.roomless; small = fair.small }
    by-test false true = record {
      writable = one sound.held sound.carried k.writable;
      last = k.last;
      roomless = k.roomless;
      small = k.small;
    }
    by-test false false = k

pub course-kept : (w : Wire) → FrameSound w.frame → (ls : List Line) → Kept (course_of w ls)
unfolding course_of
course-kept w sound [] = record { writable = none; last = sound; roomless = λ z. omega arith; small = omega arith }
course-kept w sound (l ∷ ls) =
    let s = line_step w l.chars in
    by-feed l.fed (onward-kept w sound s (line-fair w sound l.chars) (course_of s.wire ls)
    (course-kept s.wire (line-fair w sound l.chars).sound ls))
  where
    by-feed : (t : Bool) → Kept (course_onward w (line_step w l.chars) (course_of (line_step w l.chars).wire ls))
        → Kept (if t then course_onward w (line_step w l.chars) (course_of (line_step w l.chars).wire ls)
        else course_stopped w accepted l.chars)
    by-feed true k = k
    by-feed false k = record { writable = none; last = sound; roomless = λ z. omega arith; small = omega arith }
