-- A walk over the whole lines of a piece: each line's text is laid behind that of the line before. At each place there
-- is room for it where no line says more than `each` bytes for each byte of its own, and the buffer has so many for
-- each byte of the piece. And each way in which a call on a piece, or at the end of the text, can end, as its
-- definition has it.
--     Told s p               how far the whole lines go, as a call learns it
--     Running ..             the walk's invariant
use Rattle.std.specs.Prelude.{ℕ, ◌+◌, ◌-◌, ◌*◌, ◌/◌, ◌<◌, ◌≤◌, min, ◌≡◌, true, false, length, take, drop}
use Rattle.std.proofs.Math.Path.{refl, sym, ap}
use Rattle.std.proofs.Common.{◌∙◌, arith, mul-add, mul_comm, mul-le-mul_left, le-div_iff_mul-le, le-leb, length-append, length-drop}
use mathlib.Core.List.{List, [], ◌∷◌, ◌++◌, append-nil}
use Rattle.std.proofs.lemmas.Bool.{lt-leb}
use Rattle.std.proofs.Math.ListN.{drop_of_length-le}
use Rattle.basic_laws.specs.Laid.{laid}
use Rattle.basic_laws.specs.LaidLaws.{laid_none, laid_more, laid-length, laid_then, laid-read}
use Rattle.refusals.specs.Refusals.{accepted, no_room}
use Rattle.text.specs.Lines.{Line, lines_of, width, feed_at}
use Rattle.text.specs.LinesLaws.{first-size, lines-fed, lines-open, lines-done}
use Rattle.text.specs.declared.laying.Written.{Written}
use Rattle.text.specs.Laying.{lay_answer, lay_leaves}
use Rattle.text.proofs.LayingLaws.{lay-fits}
use Rattle.pieces.specs.declared.Carried.{Carried}
use Rattle.pieces.specs.declared.Fed.{Fed}
use Rattle.pieces.specs.declared.Progress.{Progress}
use Rattle.pieces.specs.Carried.{carried_in, most_carried}
use Rattle.pieces.specs.Pieces.{say_all, said, whole, rest, said_whole, carried, room_for, FeedAnswer, feed_written}
use Rattle.pieces.specs.Pieces.{finish_answer, finish_written}
use Rattle.pieces.specs.Cuts.{parts, rest_plain, alone-open}

-- ## The first line from a place on, where more lines follow or none

module _ (say : Line → List ℕ) (l : Line) (ls : List Line) where
  whole-more : l.fed ≡ true → say_all say (whole (l ∷ ls)) ≡ say l ++ say_all say (whole ls)
  unfolding whole say_all
  whole-more h = rw h

  whole-stop : l.fed ≡ false → say_all say (whole (l ∷ ls)) ≡ []
  unfolding whole say_all
  whole-stop h = rw h

module _ (l : Line) (ls : List Line) where
  rest_more : l.fed ≡ true → rest (l ∷ ls) ≡ rest ls
  unfolding rest
  rest_more h = rw h

  rest-stop : l.fed ≡ false → rest (l ∷ ls) ≡ l.chars
  unfolding rest
  rest-stop h = rw h

-- ## The walk

module _ (say : Line → List ℕ) (each : ℕ) where
  -- how far the whole lines go: what is said for them, and the place from which on the unfinished line stands
  pub record Told (s : List ℕ) (p : Progress) : Type 0 where
    pub text : p.written ≡ length (said_whole say s)
    pub few : p.written ≤ each * p.next
    pub within : p.next ≤ length s
    pub left : drop p.next s ≡ rest (lines_of s)

  -- what is said for the lines before a place is laid, and what is to come is that of the lines from it on
  pub record Running (s out₀ : List ℕ) (at written : ℕ) (out : List ℕ) : Type 0 where
    pub within : at ≤ length s
    pub size : length out ≡ length out₀
    pub few : written ≤ each * at
    pub count : written + length (said_whole say (drop at s)) ≡ length (said_whole say s)
    pub text : laid out written (said_whole say (drop at s)) ≡ laid out₀ 0 (said_whole say s)
    pub open-line : rest (lines_of (drop at s)) ≡ rest (lines_of s)

  pub running-start : (s out : List ℕ) → Running s out 0 0 out
  running-start s out = record {
    within = omega arith;
    size = refl;
    few = omega arith;
    count = omega arith;
    text = refl;
    open-line = refl;
  }

  -- no line says more than it has room for
  abbrev pub Short : Type 0
  Short = (l : Line) → 0 < width l → length (say l) ≤ each * width l

  module _ (short : Short) (s out₀ : List ℕ) (at written : ℕ) (out : List ℕ) (r : Running s out₀ at written out)
      (e : ℕ) (before : at < length s) (ends : at + feed_at (drop at s) ≡ e) (fed : e < length s) where
    abbrev here : Line
    here = record { chars = take (e - at) (drop at s); fed = true }

    here-fits : written + length (say here) ≤ each * (e + 1)
    here-fits =
        let z = first-size s at e before ends in
        let w : width here ≡ e - at + 1 = omega arith in
        let p : 0 < width here = omega arith in
        let k = short here p in
        let f = r.few in
        let sum : at + width here ≡ e + 1 = omega arith in
        let both : each * (at + width here) ≡ each * at + each * width here = mul-add each at (width here) in
        rw (← sum, both) (omega arith)

    -- what is to come begins with what is said for the line that ends at e
    here-first : said_whole say (drop at s) ≡ say here ++ said_whole say (drop (e + 1) s)
    here-first = ap (λ (ls : List Line). say_all say (whole ls)) (lines-fed s at e before ends fed)
        ∙ whole-more say here (lines_of (drop (e + 1) s)) refl

    -- it has room in a buffer that has room for each byte of the piece, and in one that has room for all that is said
    pub here-room : each * length s ≤ length out₀ → written + length (say here) ≤ length out
    here-room room =
        let h = here-fits in
        let z = r.size in
        let m : each * (e + 1) ≤ each * length s = mul-le-mul_left each (omega arith) in
        omega arith

    pub here-within : length (said_whole say s) ≤ length out₀ → written + length (say here) ≤ length out
    here-within room =
        let l = ap length here-first ∙ length-append (say here) (said_whole say (drop (e + 1) s)) in
        let c = r.count in
        let z = r.size in
        omega arith

    -- it is said, and the next place is behind its feed
    pub running_more : written + length (say here) ≤ length out → (w : Written) (next : List ℕ)
        → w ≡ lay_answer out written (say here) → next ≡ lay_leaves out written (say here)
        → Running s out₀ (e + 1) w.next next
    running_more room w next h k =
        let x = say here in
        let fits = lay-fits out written x room in
        let a : w.next ≡ written + length x = ap (λ (v : Written). v.next) (h ∙ fits.0) in
        let b : next ≡ laid out written x = k ∙ fits.1 in
        let l = ap length here-first ∙ length-append x (said_whole say (drop (e + 1) s)) in
        let c = r.count in
        let m = here-fits in
        record {
          within = omega arith;
          size = rw b (laid-length out written x room ∙ r.size);
          few = rw a m;
          count = omega arith;
          text = rw (a, b, laid_more out written x (said_whole say (drop (e + 1) s)) room, ← here-first) r.text;
          open-line = sym (rest_more here (lines_of (drop (e + 1) s)) refl)
              ∙ ap rest (sym (lines-fed s at e before ends fed)) ∙ r.open-line;
        }

  -- where there is no whole line more, all is said
  running-end : (s out₀ : List ℕ) (at written : ℕ) (out : List ℕ) → Running s out₀ at written out
      → said_whole say (drop at s) ≡ [] → rest (lines_of (drop at s)) ≡ drop at s
      → Told s record { written = written; next = at } × (out ≡ laid out₀ 0 (said_whole say s))
  running-end s out₀ at written out r none left =
      let c = r.count in
      let l : length (said_whole say (drop at s)) ≡ 0 = ap length none in (
        record { text = omega arith; few = r.few; within = r.within; left = sym left ∙ r.open-line },
        laid_none out written ∙ ap (laid out written) (sym none) ∙ r.text,
      )

  module _ (s out₀ : List ℕ) (at written : ℕ) (out : List ℕ) (r : Running s out₀ at written out) where
    pub running-done : length s ≤ at → Told s record { written = written; next = at }
        × (out ≡ laid out₀ 0 (said_whole say s))
    unfolding whole rest say_all
    running-done h =
        let n = lines-done s at h in
        running-end s out₀ at written out r (ap (λ (ls : List Line). say_all say (whole ls)) n) (ap rest n
        ∙ sym (drop_of_length-le s h))

    pub running-open : (e : ℕ) → at < length s → at + feed_at (drop at s) ≡ e → length s ≤ e
        → Told s record { written = written; next = at } × (out ≡ laid out₀ 0 (said_whole say s))
    running-open e before ends h =
        let f = lines-open s at e before ends h in
        let l : Line = record { chars = drop at s; fed = false } in
        running-end s out₀ at written out r
        (ap (λ (ls : List Line). say_all say (whole ls)) f ∙ whole-stop say l [] refl)
        (ap rest f ∙ rest-stop l [] refl)

-- ## The room for a piece, as the test has it

pub room-each : (each n m : ℕ) → 0 < each → n ≤ m / each → each * n ≤ m
room-each each n m some h = let k = (le-div_iff_mul-le some).0 h in let c = mul_comm n each in omega arith

-- ## The ends of the two calls

module _ (say : Line → List ℕ) (each most : ℕ) (s out : List ℕ) (none : length out / each < length s) where
  pub feed-short : (c : Carried) → carried_in c ≡ [] →
      let f : Fed = record { refusal = no_room; written = 0; carried = c } in
      FeedAnswer say each most s out f × (out ≡ feed_written say each most s out)
  feed-short c h =
      let e = lt-leb (length s) (length out / each) none in
      (record { refusal = rw e refl; written = rw e refl; carries = rw e h; within = omega arith }, rw e refl)

  pub finish-short : ((record { refusal = no_room; next = 0 } ≡ finish_answer say each s out) × (0 ≤ length out))
      × (out ≡ finish_written say each s out)
  finish-short = rw (lt-leb (length s) (length out / each) none) ((refl, omega arith), refl)

module _ (say : Line → List ℕ) (each : ℕ) (some : 0 < each) (s out : List ℕ) (room : length s ≤ length out / each)
    (p : Progress) (told : Told say each s p) (after : List ℕ)
    (lines : after ≡ laid out 0 (said_whole say s)) where
  -- what was said for whole lines is within the buffer
  told-fits : p.written ≤ length out
  told-fits =
      let few = told.few in
      let m : each * p.next ≤ each * length s = mul-le-mul_left each told.within in
      let r = room-each each (length s) (length out) some room in
      omega arith

  pub feed-done : (most : ℕ) → most ≤ most_carried → (c : Carried)
      → carried_in c ≡ take (min most most_carried) (drop p.next s) →
      let f : Fed = record { refusal = accepted; written = p.written; carried = c } in
      FeedAnswer say each most s out f × (after ≡ feed_written say each most s out)
  feed-done most few c k =
      let e = le-leb (length s) (length out / each) room in
      let least : min most most_carried ≡ most = omega arith in
      let b = rw (told.left, least) at k in
      (record { refusal = rw e refl; written = rw e told.text; carries = rw e b; within = told-fits }, rw e lines)

  -- every line had its feed
  pub finish-whole : length s ≤ p.next
      → ((record { refusal = accepted; next = p.written } ≡ finish_answer say each s out) × (p.written ≤ length out))
      × (after ≡ finish_written say each s out)
  unfolding say_all lines_of
  finish-whole h =
      let none : rest (lines_of s) ≡ [] = sym told.left ∙ drop_of_length-le s h in
      let all : said say s ≡ said_whole say s =
      parts say s ∙ ap (λ (u : List ℕ). said_whole say s ++ said say u) none ∙ append-nil (said_whole say s) in
      let fit = told-fits in
      rw (le-leb (length s) (length out / each) room, all) ((rw told.text refl, fit), lines)

  -- a last line had none
  pub finish-open : Short say each → (u : List ℕ) → u ≡ drop p.next s → p.next < length s
      → (w : Written) (last : List ℕ) →
      let x = say record { chars = u; fed = false } in
      w ≡ lay_answer after p.written x → last ≡ lay_leaves after p.written x
      → ((w ≡ finish_answer say each s out) × (w.next ≤ length out)) × (last ≡ finish_written say each s out)
  finish-open short u e h w last a b =
      let l : Line = record { chars = u; fed = false } in
      let x = say l in
      let t = said_whole say s in
      let n : length u ≡ length s - p.next = ap length e ∙ length-drop p.next s in
      let pos : 0 < width l = omega arith in
      let brief = short l pos in
      let few = told.few in
      let z = told.text in
      let fit = told-fits in
      let size : length after ≡ length out = rw lines (laid-length out 0 t (omega arith)) in
      let sum-width : p.next + width l ≡ length s = omega arith in
      let both : each * (p.next + width l) ≡ each * p.next + each * width l = mul-add each p.next (width l) in
      let whole_room : each * (p.next + width l) ≤ length out =
      rw sum-width (room-each each (length s) (length out) some room) in
      let fits : p.written + length x ≤ length after = omega arith in
      let one : said say (rest (lines_of s)) ≡ x =
      ap (said say) (sym (e ∙ told.left)) ∙ alone-open say u (omega arith) (rw (e, told.left) (rest_plain s)) in
      let all : said say s ≡ t ++ x = parts say s ∙ ap (λ (v : List ℕ). t ++ v) one in
      let f = lay-fits after p.written x fits in
      let sum : p.written + length x ≡ length (t ++ x) = rw (length-append t x) (omega arith) in
      let q : 0 + length t ≡ p.written = omega arith in
      let next : w.next ≡ p.written + length x = ap (λ (v : Written). v.next) (a ∙ f.0) in
      let ends : w.next ≤ length out = omega arith in
      rw (le-leb (length s) (length out / each) room, all) (
        (a ∙ f.0 ∙ ap (λ (k : ℕ). record { refusal = accepted; next = k }) sum, ends),
        b ∙ f.1 ∙ ap (λ (d : List ℕ). laid d p.written x) lines ∙ laid_then out 0 t x p.written q fit,
      )

-- ## A program that reads behind what is carried

room-part : (each n m : ℕ) → 0 < each → each * n ≤ m → n ≤ m / each
room-part each n m some h = let c = mul_comm n each in (le-div_iff_mul-le some).1 (omega arith)

-- with room for all that a piece can say, its call lays what is said for its whole lines, and carries over the rest
module _ (say : Line → List ℕ) (each : ℕ) (some : 0 < each) (s out : List ℕ) (wide : each * length s ≤ length out)
    (after : List ℕ) where
  room-test : room_for each s out ≡ true
  room-test = le-leb (length s) (length out / each) (room-part each (length s) (length out) some wide)

  pub feed-said : (most : ℕ) (f : Fed) → FeedAnswer say each most s out f → after ≡ feed_written say each most s out
      → take f.written after ≡ said_whole say s
  feed-said most f answer k =
      let n : f.written ≡ length (said_whole say s) = answer.written ∙ rw room-test refl in
      let front : after ≡ laid out 0 (said_whole say s) = k ∙ rw room-test refl in
      rw (n, front) (laid-read out 0 (said_whole say s) (omega arith))

  pub feed-carries : (most : ℕ) (f : Fed) → FeedAnswer say each most s out f → carried_in f.carried ≡ carried most s
  feed-carries most f answer = answer.carries ∙ rw room-test refl

  pub finish-said : (w : Written) → w ≡ finish_answer say each s out → after ≡ finish_written say each s out
      → take w.next after ≡ said say s
  finish-said w h k =
      let n : w.next ≡ length (said say s) = ap (λ (v : Written). v.next) h ∙ rw room-test refl in
      let front : after ≡ laid out 0 (said say s) = k ∙ rw room-test refl in
      rw (n, front) (laid-read out 0 (said say s) (omega arith))
