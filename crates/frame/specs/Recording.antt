-- A recording as a list of lines, and as successive calls write and read it.
--     read_all s              what each line says, in order
--     write_all fs            the lines of frames, one after the other, each with its feed
--     Writable fs            each of the frames is one that the program can hold and a line can carry
--     write_calls s at fs     the slice after writing frames one after the other, each at the place that the call before
--                            it answered
--     read_calls n s at       the answers of reads, each at the next place of the one before, until done; n at most
--     shown_from at fs        the answers that show frames, line after line from a place on, and then done
use Rattle.std.specs.Prelude.{ℕ, zero, suc, ◌+◌, ◌≡◌, true, List, [], ◌∷◌, ◌++◌, map, length}
use Rattle.std.specs.Prelude.{if◌then◌else◌}
use Rattle.text.specs.Lines.{lines_of}
use Rattle.frame.specs.declared.Frame.{Frame}
use Rattle.frame.specs.declared.frame_lines.LineRead.{LineRead}
use Rattle.frame.specs.Frames.{lineable, Held}
use Rattle.frame.specs.ReadLine.{LineContent, carries, read_line, found, done, line_answer_of, line_read_at}
use Rattle.frame.specs.Writing.{fed_line, line_write_answer, line_write_leaves}

abbrev pub read_all : List ℕ → List LineContent
read_all s = map read_line (lines_of s)

unfoldable pub write_all : List Frame → List ℕ
write_all [] = []
write_all (f ∷ fs) = fed_line f ++ write_all fs

pub data Writable : List Frame → Type 0 where
  none : Writable []
  one : {f : Frame} {fs : List Frame} → Held f → lineable f ≡ true → Writable fs → Writable (f ∷ fs)

-- ## Call after call

unfoldable pub write_calls : List ℕ → ℕ → List Frame → List ℕ
write_calls s at [] = s
write_calls s at (f ∷ fs) = write_calls (line_write_leaves s at f) (line_write_answer s at f).next fs

unfoldable pub read_calls : ℕ → List ℕ → ℕ → List LineRead
read_calls zero s at = []
read_calls (suc n) s at = line_read_at s at ∷ (if (line_read_at s at).done then [] else read_calls n s (line_read_at s at).next)

unfoldable pub shown_from : ℕ → List Frame → List LineRead
shown_from at [] = line_answer_of (done at) ∷ []
shown_from at (f ∷ fs) = line_answer_of (found (carries f) (at + length (fed_line f)))
    ∷ shown_from (at + length (fed_line f)) fs
