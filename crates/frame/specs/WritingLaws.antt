-- The shape of a frame's line, and the two round trips of one line: a written line is read as its frame, and an
-- accepted line is written as it was.
use Rattle.std.specs.Prelude.{◌≡◌, true}
use Rattle.frame.specs.declared.Frame.{Frame}
use Rattle.frame.specs.Frames.{lineable, Held}
use Rattle.text.specs.Lines.{Line}
use Rattle.frame.specs.Writing.{characters_of}

-- what is known of the frame of an accepted line: it spells the same line, and is one that a line can carry
pub record Carried (l : Line) (f : Frame) : Type 0 where
  pub same : characters_of f ≡ l.chars
  pub ended : l.fed ≡ true
  pub sound : lineable f ≡ true
  pub held : Held f
