-- The shape of a frame's line, and the two round trips of one line: a written line is read as its frame, and an
-- accepted line is written as it was.
use Rattle.std.specs.Prelude.{ℕ, ◌+◌, ◌*◌, ◌^◌, ◌<◌, ◌≤◌, ◌≡◌, refl, Bool, true, false, ◌&&◌, ◌||◌, List, ◌++◌, eqb, leb, length, set, take, drop}
use Rattle.std.proofs.Common.{sym, ap, ◌∙◌, append_assoc, arith, leb-true, le-leb, eqb-true, eq-eqb, lit<, lit≤, length-take, length-drop, take-append-drop, length-take-le, take_at, drop_at}
use Rattle.std.proofs.Math.ListN.{length-append}
use Rattle.std.proofs.Math.Seq.{take-add}
use Rattle.basic_laws.specs.Laid.{laid}
use Rattle.basic_laws.specs.LaidLaws.{laid-read, laid-store}
use Rattle.basic_laws.specs.Bits.{bit_number}
use Rattle.refusals.specs.Refusals.{accepted, no_room, malformed}
use Rattle.text.specs.Laying.{has_room, lay_leaves}
use Rattle.text.proofs.LayingLaws.{lay-short, lay_done, lay-fits, lay-behind}
use Rattle.frame.specs.declared.Frame.{Frame}
use Rattle.basic_laws.specs.ChoiceLaws.{and_left, and_right}
use Rattle.basic_laws.specs.FoldLaws.{all_append, all_take, all_drop}
use Rattle.basic_laws.specs.BitsLaws.{one_bit}
use Rattle.basic_laws.specs.BytesLaws.{bytes_take}
use Rattle.text.specs.Digits.{is_digit, hex_digits, hex_of, bytes_of, spells}
use Rattle.text.specs.DigitsLaws.{digits-length, digits_are, number_digits, digits_number, hex-length, hex-are}
use Rattle.text.specs.DigitsLaws.{bytes-hex, hex-bytes, pairs-length, bytes-bytes}
use Rattle.frame.specs.Frames.{no_bits, bytes_for, count_allowed, clear_from, lineable, most_slots, Held}
use Rattle.frame.specs.FramesLaws.{pad-back, pad-length, pad-bytes}
use Rattle.text.specs.Lines.{Line, line_feed}
use Rattle.frame.specs.ReadLine.{presence_in, slot_count_in, frame_in, well_formed, read_line, carries}
use Rattle.frame.specs.ReadLineLaws.{read-accepted, accepted-read}
use Rattle.frame.specs.Writing.{head_of, slot_bytes, characters_of, fed_line, line_write_answer, line_write_leaves}
use Rattle.frame.specs.WritingLaws.{Carried}

-- ## What being lineable tells

module _ (f : Frame) (h : lineable f ≡ true) where
  pub lineable-count : f.count ≤ most_slots
  lineable-count = leb-true f.count most_slots
      (and_left (leb f.count most_slots) (f.presence
      || eqb f.count 0) (and_left (count_allowed f.presence f.count) (clear_from f.count f.bits) h))

  pub lineable-clear : clear_from f.count f.bits ≡ true
  lineable-clear = and_right (count_allowed f.presence f.count) (clear_from f.count f.bits) h

-- ## A truth value as a number

bit-small : (b : Bool) → bit_number b < 16 ^ 2
bit-small true = lit< tt
bit-small false = lit< tt

bit-one : (b : Bool) → eqb (bit_number b) 1 ≡ b
bit-one true = refl
bit-one false = refl

bit_le : (b : Bool) → bit_number b ≤ 1
bit_le true = lit≤ tt
bit_le false = lit≤ tt

-- ## The line's shape

pub line-digits : (f : Frame) → spells 16 (characters_of f) ≡ true
unfolding characters_of
line-digits f =
    rw (
      all_append (is_digit 16) (head_of f.presence f.count) (hex_of (slot_bytes f)),
      all_append (is_digit 16) (hex_digits 2 (bit_number f.presence)) (hex_digits 4 f.count),
      digits_are 16 (lit< tt) (lit≤ tt) 2 (bit_number f.presence),
      digits_are 16 (lit< tt) (lit≤ tt) 4 f.count,
      hex-are (slot_bytes f),
    )

line-presence : (f : Frame) → take 2 (characters_of f) ≡ hex_digits 2 (bit_number f.presence)
unfolding characters_of
line-presence f =
    rw (append_assoc (hex_digits 2 (bit_number f.presence)) (hex_digits 4 f.count) (hex_of (slot_bytes f)))
    (take_at (hex_digits 2 (bit_number f.presence)) (hex_digits 4 f.count
    ++ hex_of (slot_bytes f)) 2 (digits-length 16 2 (bit_number f.presence)))

line-count : (f : Frame) → take 4 (drop 2 (characters_of f)) ≡ hex_digits 4 f.count
unfolding characters_of
line-count f =
    rw (
      append_assoc (hex_digits 2 (bit_number f.presence)) (hex_digits 4 f.count) (hex_of (slot_bytes f)),
      drop_at (hex_digits 2 (bit_number f.presence)) (hex_digits 4 f.count
          ++ hex_of (slot_bytes f)) 2 (digits-length 16 2 (bit_number f.presence)),
    )
    (take_at (hex_digits 4 f.count) (hex_of (slot_bytes f)) 4 (digits-length 16 4 f.count))

line-slots : (f : Frame) → drop 6 (characters_of f) ≡ hex_of (slot_bytes f)
unfolding characters_of
line-slots f =
    let a = digits-length 16 2 (bit_number f.presence) in let b = digits-length 16 4 f.count in
    let l : length (head_of f.presence f.count) ≡ 6 = simp length-append (omega arith) in
    drop_at (head_of f.presence f.count) (hex_of (slot_bytes f)) 6 l

module _ (f : Frame) (size : length f.bits ≡ 64) (h : lineable f ≡ true) where
  pub slot-bytes : length (slot_bytes f) ≡ bytes_for f.count
  slot-bytes = let c = lineable-count f h in length-take-le (bytes_for f.count) f.bits (omega arith)

  pub line-length : length (characters_of f) ≡ 6 + 2 * bytes_for f.count
  unfolding characters_of
  line-length =
      let a = digits-length 16 2 (bit_number f.presence) in
      let b = digits-length 16 4 f.count in
      let d = hex-length (slot_bytes f) in
      let e = slot-bytes in
      simp length-append (omega arith)

  pub fed-length : length (fed_line f) ≡ 7 + 2 * bytes_for f.count
  fed-length = let l = line-length in simp length-append (omega arith)

-- ## A written line is read as its frame

module _ (f : Frame) (held : Held f) (h : lineable f ≡ true) where
  spelt-presence : presence_in (characters_of f) ≡ bit_number f.presence
  spelt-presence = rw (line-presence f) (number_digits 16 (lit< tt) (lit≤ tt) 2 (bit_number f.presence)
      (bit-small f.presence))

  spelt-count : slot_count_in (characters_of f) ≡ f.count
  spelt-count =
      let c = lineable-count f h in
      rw (line-count f) (number_digits 16 (lit< tt) (lit≤ tt) 4 f.count (omega arith))

  spelt-bits : laid no_bits 0 (bytes_of (drop 6 (characters_of f))) ≡ f.bits
  spelt-bits =
      let c = lineable-count f h in
      let n = bytes_for f.count in
      rw (line-slots f, bytes-hex (slot_bytes f) (bytes_take n f.bits held.bytes))
      (pad-back f.bits n f.count held.size held.bytes (omega arith) (omega arith) (lineable-clear f h))

  spelt : frame_in (characters_of f) ≡ f
  spelt = rw (spelt-presence, spelt-count, spelt-bits, bit-one f.presence)

  written-formed : well_formed (characters_of f) ≡ true
  written-formed =
      rw (
        spelt-presence,
        spelt-count,
        spelt-bits,
        bit-one f.presence,
        le-leb (bit_number f.presence) 1 (bit_le f.presence),
        eq-eqb (length (characters_of f)) (6 + 2 * bytes_for f.count) (line-length f held.size h),
      )
      h

  -- a written line is read as its frame
  pub read-written : read_line record { chars = characters_of f; fed = true } ≡ carries f
  read-written = accepted-read record { chars = characters_of f; fed = true } f record {
    short = let c = lineable-count f h in let l = line-length f held.size h in omega arith;
    digital = line-digits f;
    ended = refl;
    formed = written-formed;
    spelt = spelt;
  }

-- ## An accepted line is written as it was, and its frame can be written

module _ (cs : List ℕ) (digital : spells 16 cs ≡ true) (formed : well_formed cs ≡ true) where
  head-formed : (leb (presence_in cs) 1 && eqb (length cs) (6 + 2 * bytes_for (slot_count_in cs))) ≡ true
  head-formed = and_left (leb (presence_in cs) 1
      && eqb (length cs) (6 + 2 * bytes_for (slot_count_in cs))) (lineable (frame_in cs)) formed

  formed-lineable : lineable (frame_in cs) ≡ true
  formed-lineable = and_right (leb (presence_in cs) 1
      && eqb (length cs) (6 + 2 * bytes_for (slot_count_in cs))) (lineable (frame_in cs)) formed

  formed-presence : presence_in cs ≤ 1
  formed-presence = leb-true (presence_in cs) 1
      (and_left (leb (presence_in cs) 1) (eqb (length cs) (6 + 2 * bytes_for (slot_count_in cs))) head-formed)

  formed-length : length cs ≡ 6 + 2 * bytes_for (slot_count_in cs)
  formed-length = eqb-true (length cs) (6 + 2 * bytes_for (slot_count_in cs))
      (and_right (leb (presence_in cs) 1) (eqb (length cs) (6 + 2 * bytes_for (slot_count_in cs))) head-formed)

  rest-length : length (drop 6 cs) ≡ 2 * bytes_for (slot_count_in cs)
  rest-length = let l = formed-length in length-drop 6 cs ∙ omega arith

  body-length : length (bytes_of (drop 6 cs)) ≡ bytes_for (slot_count_in cs)
  body-length = pairs-length (bytes_for (slot_count_in cs)) (drop 6 cs) rest-length

  body-few : length (bytes_of (drop 6 cs)) ≤ 64
  body-few = let b = body-length in let c = lineable-count (frame_in cs) formed-lineable in omega arith

  formed-held : Held (frame_in cs)
  formed-held = record {
    size = pad-length (bytes_of (drop 6 cs)) body-few;
    bytes = pad-bytes (bytes_of (drop 6 cs)) body-few (bytes-bytes (drop 6 cs) (all_drop (is_digit 16) 6 cs digital));
  }

  back-presence : hex_digits 2 (bit_number (frame_in cs).presence) ≡ take 2 cs
  back-presence =
      let l : length (take 2 cs) ≡ 2 = let f = formed-length in length-take-le 2 cs (omega arith) in
      rw (one_bit (presence_in cs) formed-presence) (ap (λ (k : ℕ). hex_digits k (presence_in cs)) (sym l)
      ∙ digits_number 16 (lit< tt) (lit≤ tt) (take 2 cs) (all_take (is_digit 16) 2 cs digital))

  back_count : hex_digits 4 (frame_in cs).count ≡ take 4 (drop 2 cs)
  back_count =
      let l : length (take 4 (drop 2 cs)) ≡ 4 = let f = formed-length in
      simp (length-take, length-drop) (omega arith) in
      ap (λ (k : ℕ). hex_digits k (slot_count_in cs)) (sym l)
      ∙ digits_number 16 (lit< tt) (lit≤ tt) (take 4 (drop 2 cs))
      (all_take (is_digit 16) 4 (drop 2 cs) (all_drop (is_digit 16) 2 cs digital))

  back-slots : hex_of (slot_bytes (frame_in cs)) ≡ drop 6 cs
  back-slots =
      let b : slot_bytes (frame_in cs) ≡ bytes_of (drop 6 cs) =
      ap (λ (k : ℕ). take k (laid no_bits 0 (bytes_of (drop 6 cs)))) (sym body-length)
      ∙ laid-read no_bits 0 (bytes_of (drop 6 cs)) (omega arith) in
      ap hex_of b ∙ hex-bytes (bytes_for (slot_count_in cs)) (drop 6 cs) rest-length (all_drop (is_digit 16) 6 cs digital)

  written_back : characters_of (frame_in cs) ≡ cs
  unfolding characters_of
  written_back = rw (back-presence, back_count, back-slots, ← take-add 2 4 cs) (take-append-drop 6 cs)

-- an accepted line is written as it was
pub written_read : (l : Line) (f : Frame) → read_line l ≡ carries f → Carried l f
written_read l f h =
    let a = read-accepted l f h in
    rw (← a.spelt) record {
      same = written_back l.chars a.digital a.formed;
      ended = a.ended;
      sound = formed-lineable l.chars a.digital a.formed;
      held = formed-held l.chars a.digital a.formed;
    }

-- ## The line, laid in four parts

pub line-laid : (d : List ℕ) (at : ℕ) (f : Frame) (n : ℕ) → length (slot_bytes f) ≡ n → at + (7 + 2 * n) ≤ length d
    → set (lay_leaves (lay_leaves (lay_leaves d at (hex_digits 2 (bit_number f.presence))) (at + 2)
    (hex_digits 4 f.count)) (at + 6) (hex_of (slot_bytes f))) (at + 6 + 2 * n) line_feed
    ≡ laid d at (fed_line f)
unfolding characters_of
line-laid d at f n e h =
    let x = hex_digits 2 (bit_number f.presence) in
    let y = hex_digits 4 f.count in
    let z = hex_of (slot_bytes f) in
    let a = digits-length 16 2 (bit_number f.presence) in
    let b = digits-length 16 4 f.count in
    let c = hex-length (slot_bytes f) in
    let head = length-append x y in
    let line = length-append (x ++ y) z in
    let first = (lay-fits d at x (omega arith)).1 in
    let second = lay-behind d at x y (at + 2) (omega arith) (omega arith) in
    let third = lay-behind d at (x ++ y) z (at + 6) (omega arith) (omega arith) in
    rw (first, second, third) (laid-store d at (x ++ y ++ z) line_feed (at + 6 + 2 * n) (omega arith) (omega arith))

-- ## The three ways a write can end

module _ (s : List ℕ) (at : ℕ) (f : Frame) where
  pub write-unsound : lineable f ≡ false → (record { refusal = malformed; next = 0 } ≡ line_write_answer s at f)
      × (s ≡ line_write_leaves s at f)
  write-unsound e = rw e (refl, refl)

  pub write-short : (n : ℕ) → lineable f ≡ true → length (fed_line f) ≡ n → has_room s at n ≡ false
      → (record { refusal = no_room; next = 0 } ≡ line_write_answer s at f) × (s ≡ line_write_leaves s at f)
  write-short n sound width h = rw sound (lay-short s at (fed_line f) n (sym width) h)

  pub write_done : (n : ℕ) → lineable f ≡ true → length (fed_line f) ≡ n → at + n ≤ length s
      → (record { refusal = accepted; next = at + n } ≡ line_write_answer s at f)
      × (laid s at (fed_line f) ≡ line_write_leaves s at f)
  write_done n sound width h = rw sound (lay_done s at (fed_line f) n (sym width) h)
