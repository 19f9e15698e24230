-- Mending of a recording that went through an editor (document 02, E8): three things, in this order. A line that reads
-- as it stands is kept, one that reads once mended is written so, any other is dropped. Reading gives only the refusals
-- 2 and 3.
--     raised c                 a to f raised to A to F; any other character as it is
--     unreturned cs            without one carriage return at the end
--     unspaced cs              without the spaces at the end
--     mended_chars cs           the three, one after the other
--     altered_by cs             the sum of 1, 2 and 4 for those of the three that altered the line
--     line_refusal l            the number with which a line is refused; 0 for one that reads
--     Fate, fate_of l           what becomes of a line
--     report_byte l             the report on a line: 0 kept, 16 and more mended, 32 and more dropped
--     lines_left l              the line that is written: one or none
--     mended_bytes l            its bytes
--     reported n w             a report beside what was written, and zero beside a refusal
--     line_mended l out at      what a call on a line answers
--     mended_text s, reports s  what is written for a whole text, and the report of each of its lines
use Rattle.std.specs.Prelude.{ℕ, ◌+◌, ◌-◌, Bool, not, ◌&&◌, List, [], ◌∷◌, map, length, take, ◌==◌, nat_le, nat_lt, slice_index}
use Rattle.std.specs.Prelude.{if◌then◌else◌}
use Rattle.basic_laws.specs.Fold.{all}
use Rattle.basic_laws.specs.Same.{same}
use Rattle.refusals.specs.Refusals.{accepted, not_hex, malformed}
use Rattle.text.specs.Lines.{Line, lines_of, lines_bytes, carriage_return, space}
use Rattle.text.specs.Laying.{lay_answer}
use Rattle.text.specs.declared.laying.Written.{Written}
use Rattle.pieces.specs.Pieces.{said}
use Rattle.frame.specs.ReadLine.{LineContent, carries, no_frame, read_line}
use Rattle.mending.specs.declared.LineMended.{LineMended}

-- ## The three things

abbrev pub raised : ℕ → ℕ
raised c = if nat_le 0x61 c && nat_le c 0x66 then c - 0x20 else c

abbrev pub unreturned : List ℕ → List ℕ
unreturned cs = if slice_index cs (length cs - 1) == carriage_return then take (length cs - 1) cs else cs

abbrev pub is_space : ℕ → Bool
is_space c = c == space

unfoldable pub unspaced : List ℕ → List ℕ
unspaced [] = []
unspaced (c ∷ cs) = if all is_space (c ∷ cs) then [] else c ∷ unspaced cs

abbrev pub mended_chars : List ℕ → List ℕ
mended_chars cs = unspaced (unreturned (map raised cs))

-- the number of a step where it altered the characters
abbrev pub step_mark : ℕ → List ℕ → List ℕ → ℕ
step_mark step before after = if same before after then 0 else step

abbrev pub altered_by : List ℕ → ℕ
altered_by cs =
    step_mark 1 cs (map raised cs) + step_mark 2 (map raised cs) (unreturned (map raised cs))
    + step_mark 4 (unreturned (map raised cs)) (mended_chars cs)

-- ## What becomes of a line

abbrev pub content_refusal : LineContent → ℕ
content_refusal (carries f) = accepted
content_refusal (no_frame n) = n

abbrev pub line_refusal : Line → ℕ
line_refusal l = content_refusal (read_line l)

-- a line with its feed, once mended
abbrev pub mended_line : Line → Line
mended_line l = record { chars = mended_chars l.chars; fed = l.fed }

-- the most characters of a line that is mended
abbrev pub longest_mended : ℕ
longest_mended = 256

-- kept; mended, by which of the three; or dropped, for which refusal
pub data Fate : Type 0 where
  kept : Fate
  mended : ℕ → Fate
  dropped : ℕ → Fate

-- an over-long line is dropped whatever it holds, then one without a feed
unfoldable pub fate_of : Line → Fate
fate_of l =
    if nat_lt longest_mended (length l.chars) then dropped malformed
    else if not l.fed then dropped not_hex
    else if line_refusal l == accepted then kept
    else if line_refusal (mended_line l) == accepted then mended (altered_by l.chars)
    else dropped (line_refusal (mended_line l))

-- the byte of a fate
abbrev pub fate_byte : Fate → ℕ
fate_byte kept = 0
fate_byte (mended by) = 16 + by
fate_byte (dropped n) = 32 + n

abbrev pub report_byte : Line → ℕ
report_byte l = fate_byte (fate_of l)

-- what a fate leaves of a line
abbrev pub left : Line → Fate → List Line
left l kept = l ∷ []
left l (mended by) = mended_line l ∷ []
left l (dropped n) = []

abbrev pub lines_left : Line → List Line
lines_left l = left l (fate_of l)

abbrev pub mended_bytes : Line → List ℕ
mended_bytes l = lines_bytes (lines_left l)

abbrev pub reported : ℕ → Written → LineMended
reported n w = record { report = if w.refusal == accepted then n else 0; written = w }

-- what a call on a line answers: the report, and where its bytes end, laid at a place of a buffer
abbrev pub line_mended : Line → List ℕ → ℕ → LineMended
line_mended l out at = reported (report_byte l) (lay_answer out at (mended_bytes l))

-- ## A whole text

-- what is written for it
abbrev pub mended_text : List ℕ → List ℕ
mended_text s = said mended_bytes s

-- the report of each of its lines, in order
abbrev pub reports : List ℕ → List ℕ
reports s = map report_byte (lines_of s)
