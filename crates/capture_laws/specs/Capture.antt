-- What becomes of a capture, line by line, with no reader and no buffer: the lines as text cuts them, the edges by the
-- rule over edges.
--     line_step w cs          what a line of the characters cs comes to: refusal 2 for another character, then 3 for
--                            another length than eight, then the edge
--     EdgeCourse             the frames that were closed, the refusal or 0, where the line stands, and the characters
--                            behind the last feed
--     course_of w ls          the course of lines from a line w on; it ends at the first refusal
--     course_onward w s c     the course of a line that comes to the step s, where c is that of the lines behind it
--     capture s              the course of a whole capture
--     course_ended c          the course with its end
--     FrameSound f           a frame that the program can hold and a line can carry
use Rattle.std.specs.Prelude.{ℕ, ◌≡◌, true, not, List, [], ◌∷◌, ◌++◌, eqb, length}
use Rattle.std.specs.Prelude.{if◌then◌else◌}
use Rattle.refusals.specs.Refusals.{accepted, not_hex, malformed}
use Rattle.text.specs.Digits.{spells, number_in}
use Rattle.text.specs.Lines.{Line, lines_of}
use Rattle.frame.specs.declared.Frame.{Frame}
use Rattle.frame.specs.Frames.{lineable, Held}
use Rattle.captures.specs.declared.pulses.Wire.{Wire}
use Rattle.captures.specs.declared.pulses.Step.{Step}
use Rattle.captures.specs.declared.pulses.Ending.{Ending}
use Rattle.captures.specs.Rule.{untouched, refuses, edge_step, ending_at}
use Rattle.captures.specs.Partial.{time_digits}

-- what a line comes to
abbrev pub line_step : Wire → List ℕ → Step
line_step w cs =
    if not (spells 16 cs) then refuses w not_hex
    else if not (eqb (length cs) time_digits) then refuses w malformed
    else edge_step w (number_in 16 cs)

-- what becomes of lines
pub record EdgeCourse : Type 0 where
  -- the frames that were closed, in order
  pub frames : List Frame
  pub refusal : ℕ
  pub wire : Wire
  -- the characters behind the last feed
  pub left : List ℕ

-- nothing is closed
abbrev pub course_stopped : Wire → ℕ → List ℕ → EdgeCourse
course_stopped w n cs = record { frames = []; refusal = n; wire = w; left = cs }

-- a frame closed before the rest
abbrev pub closing : Frame → EdgeCourse → EdgeCourse
closing f c = record { frames = f ∷ c.frames; refusal = c.refusal; wire = c.wire; left = c.left }

-- a line, and the course of those behind it
abbrev pub course_onward : Wire → Step → EdgeCourse → EdgeCourse
course_onward w s behind =
    if not (eqb s.refusal accepted) then course_stopped w s.refusal []
    else if s.closes then closing w.frame behind
    else behind

unfoldable pub course_of : Wire → List Line → EdgeCourse
course_of w [] = course_stopped w accepted []
course_of w (l ∷ ls) = if l.fed then course_onward w (line_step w l.chars) (course_of (line_step w l.chars).wire ls)
    else course_stopped w accepted l.chars

abbrev pub capture : List ℕ → EdgeCourse
capture s = course_of untouched (lines_of s)

-- ## With the end

-- an end that is refused
abbrev pub refused_end : EdgeCourse → ℕ → EdgeCourse
refused_end c n = record { frames = c.frames; refusal = n; wire = c.wire; left = c.left }

-- an end that closes the open frame
abbrev pub last_closed : EdgeCourse → EdgeCourse
last_closed c = record {
  frames = c.frames ++ (c.wire.frame ∷ []);
  refusal = c.refusal;
  wire = c.wire;
  left = c.left;
}

-- an end by where the line stands
abbrev pub ended_at : EdgeCourse → Ending → EdgeCourse
ended_at c e = if not (eqb e.refusal accepted) then refused_end c e.refusal else if e.closes then last_closed c
    else c

-- after a refusal it is that; in a line it is refused with 2; else it goes by where the line stands
abbrev pub course_ended : EdgeCourse → EdgeCourse
course_ended c =
    if not (eqb c.refusal accepted) then c
    else if not (eqb (length c.left) 0) then refused_end c not_hex
    else ended_at c (ending_at c.wire.stage)

-- ## Frames

pub record FrameSound (f : Frame) : Type 0 where
  pub held : Held f
  pub carried : lineable f ≡ true
