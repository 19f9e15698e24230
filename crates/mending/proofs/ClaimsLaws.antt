-- Every line that is written reads, so that mending it again keeps it; and 257 characters tell what becomes of a line.
--     mending-sound          the claim of every text
--     mending-cuts           the claim of every text cut anywhere
use Rattle.std.specs.Prelude.{◌≡◌, ℕ, ◌+◌, ◌<◌, ◌≤◌, Bool, true, false, not, List, [], ◌∷◌, ◌++◌, map, length, replicate, ◌==◌, nat_lt, refl}
use Rattle.std.proofs.Common.{sym, ap, ◌∙◌, append-nil, arith, eqb-true, lit<, lit≤, length-append}
use Rattle.std.specs.Prelude.{if◌then◌else◌}
use Rattle.basic_laws.specs.Each.{Each}
use Rattle.basic_laws.specs.EachLaws.{each_append}
use Rattle.refusals.specs.Refusals.{accepted, not_hex, malformed}
use Rattle.text.specs.Lines.{Line, line_feed, lines_of, lines_bytes, line_bytes, width}
use Rattle.text.specs.LinesLaws.{lines-bytes, lines_cut, line-bytes-append, digits-no-feed}
use Rattle.pieces.specs.Pieces.{say_all, together, Enough}
use Rattle.pieces.proofs.Cuts.{any-cuts}
use Rattle.pieces.specs.Walk.{Short}
use Rattle.mending.specs.Mending.{mended_chars, altered_by, line_refusal, mended_line, longest_mended, Fate, kept}
use Rattle.mending.specs.Mending.{mended, dropped, fate_of, report_byte, left, lines_left, mended_bytes, mended_text}
use Rattle.mending.proofs.RepairLaws.{mended-fewer}
use Rattle.mending.specs.LineLaws.{reading, fate-kept, fate-long}
use Rattle.mending.specs.Claims.{left_of, MendingClaim, most_held_of_mending, report_said, CutsClaim}

abbrev Readable : Line → Type 0
Readable l = line_refusal l ≡ accepted

-- ## Every line that is written reads

line_reads : (l : Line) → Each Readable (lines_left l)
unfolding fate_of
line_reads l = by_tests (nat_lt longest_mended (length l.chars)) (not l.fed) (line_refusal l == accepted)
    (line_refusal (mended_line l) == accepted) refl refl
  where
    by_tests : (t u v w : Bool) → (line_refusal l == accepted) ≡ v → (line_refusal (mended_line l) == accepted) ≡ w
        → Each Readable
        (left l (if t then dropped malformed else if u then dropped not_hex else if v then kept else if w
        then mended (altered_by l.chars) else dropped (line_refusal (mended_line l))))
    by_tests true u v w p q = tt
    by_tests false true v w p q = tt
    by_tests false false true w p q = (eqb-true (line_refusal l) accepted p, tt)
    by_tests false false false true p q = (eqb-true (line_refusal (mended_line l)) accepted q, tt)
    by_tests false false false false p q = tt

all_read : (ls : List Line) → Each Readable (left_of ls)
unfolding left_of
all_read [] = tt
all_read (l ∷ ls) = each_append Readable (lines_left l) (left_of ls) (line_reads l) (all_read ls)

-- what is written are the bytes of those lines
said-left : (ls : List Line) → say_all mended_bytes ls ≡ lines_bytes (left_of ls)
unfolding say_all left_of lines_bytes
said-left [] = refl
said-left (l ∷ ls) = rw (said-left ls) (sym (line-bytes-append (lines_left l) (left_of ls)))

-- lines that read, put together, are cut as they were
cut-back : (ms : List Line) → Each Readable ms → lines_of (lines_bytes ms) ≡ ms
unfolding lines_bytes lines_of
cut-back [] e = refl
cut-back (m ∷ ms) e =
    let r = reading m e.0 in
    let whole : line_bytes m ++ lines_bytes ms ≡ (m.chars ++ (line_feed ∷ [])) ++ lines_bytes ms = rw r.ended in
    let fed : record { chars = m.chars; fed = true } ≡ m =
    ap (λ (t : Bool). record { chars = m.chars; fed = t }) (sym r.ended) in
    ap lines_of whole ∙ lines_cut m.chars (lines_bytes ms) (digits-no-feed 16 m.chars (lit≤ tt) r.digital)
    ∙ ap (λ (ls : List Line). record { chars = m.chars; fed = true } ∷ ls) (cut-back ms e.1)
    ∙ ap (λ (x : Line). x ∷ ms) fed

-- and are kept
kept-all : (ms : List Line) → Each Readable ms → (left_of ms ≡ ms) × (map report_byte ms ≡ replicate (length ms) 0)
unfolding left_of
kept-all [] e = (refl, refl)
kept-all (m ∷ ms) e = let i = kept-all ms e.1 in
    rw (fate-kept m e.0) (ap (λ (ls : List Line). m ∷ ls) i.0, ap (λ (bs : List ℕ). 0 ∷ bs) i.1)

-- ## What is written is no longer than what was read

bytes-width : (l : Line) → length (line_bytes l) ≡ width l
bytes-width l = by-test l.fed
  where
    by-test : (t : Bool) → length (if t then l.chars ++ (line_feed ∷ []) else l.chars)
        ≡ (if t then length l.chars + 1 else length l.chars)
    by-test true = length-append l.chars (line_feed ∷ [])
    by-test false = refl

mended-width : (l : Line) → width (mended_line l) ≤ width l
mended-width l = by-test l.fed (mended-fewer l.chars)
  where
    by-test : (t : Bool) → length (mended_chars l.chars) ≤ length l.chars
        → (if t then length (mended_chars l.chars) + 1 else length (mended_chars l.chars)) ≤ (if t
        then length l.chars + 1 else length l.chars)
    by-test true h = omega arith
    by-test false h = h

pub line-fits : (l : Line) → length (mended_bytes l) ≤ width l
unfolding lines_bytes
line-fits l = by-fate (fate_of l)
  where
    by-fate : (o : Fate) → length (lines_bytes (left l o)) ≤ width l
    by-fate kept = rw (append-nil (line_bytes l), bytes-width l) (omega arith)
    by-fate (mended n) = rw (append-nil (line_bytes (mended_line l)), bytes-width (mended_line l)) (mended-width l)
    by-fate (dropped n) = omega arith

pub mended-short : Short mended_bytes 1
mended-short l some = let h = line-fits l in omega arith

pub report-short : Short report_said 1
report-short l some = omega arith

text-fits : (ls : List Line) → length (say_all mended_bytes ls) ≤ length (lines_bytes ls)
unfolding say_all lines_bytes
text-fits [] = omega arith
text-fits (l ∷ ls) =
    let one = line-fits l in
    let size = bytes-width l in
    let others = text-fits ls in
    rw (
      length-append (mended_bytes l) (say_all mended_bytes ls),
      length-append (line_bytes l) (lines_bytes ls),
    ) (omega arith)

-- ## The claim of every text

pub mending-sound : MendingClaim
mending-sound s =
    let ls = lines_of s in
    let text : mended_text s ≡ lines_bytes (left_of ls) = said-left ls in
    let lines : lines_of (mended_text s) ≡ left_of ls = ap lines_of text ∙ cut-back (left_of ls) (all_read ls) in
    let same = kept-all (left_of ls) (all_read ls) in
    record {
      lines = lines;
      reads = rw lines (all_read ls);
      again = ap (say_all mended_bytes) lines ∙ said-left (left_of ls) ∙ ap lines_bytes same.0 ∙ sym text;
      zeros = rw lines same.1;
      fits = let h = text-fits ls in rw (lines-bytes s) at h;
    }

-- ## A text in pieces

-- the reports of lines, as what is said for each
pub reports-said : (ls : List Line) → say_all report_said ls ≡ map report_byte ls
unfolding say_all
reports-said [] = refl
reports-said (l ∷ ls) = ap (λ (bs : List ℕ). report_byte l ∷ bs) (reports-said ls)

long-dropped : (l : Line) → most_held_of_mending ≤ length l.chars → fate_of l ≡ dropped malformed
long-dropped l h = let k : longest_mended < length l.chars = omega arith in fate-long l k

same_outcome : (l m : Line) → most_held_of_mending ≤ length l.chars → most_held_of_mending ≤ length m.chars
    → (lines_bytes (left l (fate_of l)) ≡ lines_bytes (left m (fate_of m))) × (report_said l ≡ report_said m)
same_outcome l m a b = rw (long-dropped l a, long-dropped m b) (refl, refl)

pub mended-enough : Enough mended_bytes most_held_of_mending
mended-enough = record { some = lit< tt; same = λ l m a b agree fed. (same_outcome l m a b).0 }

pub report-enough : Enough report_said most_held_of_mending
report-enough = record { some = lit< tt; same = λ l m a b agree fed. (same_outcome l m a b).1 }

pub mending-cuts : (cs : List (List ℕ)) → CutsClaim cs
mending-cuts cs = record {
  text = any-cuts mended_bytes most_held_of_mending mended-enough cs;
  report = any-cuts report_said most_held_of_mending report-enough cs ∙ reports-said (lines_of (together cs));
}
