-- What printing adds to a text in pieces: a line's text takes at most ten bytes for each byte of the line, and 135
-- characters of a line tell what is printed for it. So a recording in pieces prints what it prints as a whole.
--     recording-cuts         the theorem
use Rattle.std.specs.Prelude.{ℕ, ◌+◌, ◌*◌, ◌<◌, ◌≤◌, ◌≡◌, refl, Bool, true, false, ◌&&◌, List, [], ◌∷◌, ◌++◌, eqb, leb, length}
use Rattle.std.proofs.Common.{sym, ap, ◌∙◌, arith, eqb-true, lit<, lit≤, length-append}
use Rattle.std.specs.Prelude.{if◌then◌else◌}
use Rattle.basic_laws.specs.ChoiceLaws.{and_left, and_right}
use Rattle.refusals.specs.Refusals.{accepted, malformed}
use Rattle.text.specs.DecimalLaws.{decimal-length, length-small}
use Rattle.text.specs.Decimal.{decimal}
use Rattle.text.specs.Lines.{Line, line_feed, width}
use Rattle.pieces.specs.Pieces.{together, pieces, Enough}
use Rattle.pieces.proofs.Cuts.{any-cuts}
use Rattle.pieces.specs.Walk.{Short}
use Rattle.frame.specs.Frames.{bytes_for, lineable}
use Rattle.frame.specs.ReadLine.{LineContent, longest_line, presence_in, slot_count_in, frame_in, carries, no_frame, read_line}
use Rattle.frame.specs.ReadLineLaws.{read-accepted, read-long, refused-number}
use Rattle.naming.specs.Naming.{named, refused_name, read_named}
use Rattle.naming.specs.Laws.{named_small}
use Rattle.naming.specs.declared.Name.TheVariants.{Other}
use Rattle.naming.specs.Printing.{word, refused_word, refused_text, printed_name, printed_line}
use Rattle.naming.specs.PrintingLaws.{printed-length}
use Rattle.naming.specs.Streaming.{printed, most_held_of_recording, most_printed}

-- ## A line's text takes at most ten bytes for each byte of the line

refused-short : (n : ℕ) → n < 10 → length (printed_name (refused_name n)) ≤ 10
unfolding printed_name
refused-short n h =
    let one : length (decimal n) ≡ 1 = decimal-length n ∙ length-small n h in
    by-test (eqb n accepted) one
  where
    by-test : (t : Bool) → length (decimal n) ≡ 1
        → length ((if t then word Other ++ [] else refused_text n) ++ (line_feed ∷ [])) ≤ 10
    by-test true one = lit≤ tt
    by-test false one = rw (
      length-append (refused_text n) (line_feed ∷ []),
      length-append refused_word (decimal n),
    ) (omega arith)

pub text-short : Short printed_line most_printed
text-short l h = by-reading (read_line l) refl
  where
    by-reading : (r : LineContent) → read_line l ≡ r → length (printed_name (read_named r)) ≤ 10 * width l
    by-reading (no_frame n) e = let few = (refused-number l n e).1 in let k = refused-short n (omega arith) in omega arith
    by-reading (carries f) e =
        let a = read-accepted l f e in
        let cs = l.chars in
        let head = and_left (leb (presence_in cs) 1
        && eqb (length cs) (6 + 2 * bytes_for (slot_count_in cs))) (lineable (frame_in cs)) a.formed in
        let size = eqb-true (length cs) (6 + 2 * bytes_for (slot_count_in cs))
        (and_right (leb (presence_in cs) 1) (eqb (length cs) (6 + 2 * bytes_for (slot_count_in cs))) head) in
        let w : width l ≡ length cs + 1 = rw a.ended in
        let k = printed-length (named f) (omega (arith, named_small f)) in
        omega arith

-- ## Over-long lines print the same, whatever stands in them

long-printed : (l : Line) → most_held_of_recording ≤ length l.chars
    → printed_line l ≡ printed_name (refused_name malformed)
long-printed l h = let k : longest_line < length l.chars = omega arith in
    ap (λ (r : LineContent). printed_name (read_named r)) (read-long l k)

pub carried-tells : Enough printed_line most_held_of_recording
carried-tells = record { some = lit< tt; same = λ l m a b agree fed. long-printed l a ∙ sym (long-printed m b) }

-- what the calls print for the pieces of a recording, whatever the cuts, is what is printed for the whole
pub recording-cuts : (cs : List (List ℕ)) → pieces printed_line most_held_of_recording [] cs ≡ printed (together cs)
recording-cuts cs = any-cuts printed_line most_held_of_recording carried-tells cs
