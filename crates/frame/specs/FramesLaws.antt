-- The slots of a frame by their places, one slot more, bytes laid over a blank frame, and that slots recorded one after
-- the other are the frame's slots.
use Rattle.std.specs.Prelude.{ℕ, zero, suc, ◌+◌, ◌*◌, ◌/◌, ◌%◌, ◌^◌, ◌<◌, ◌≤◌, ◌-◌, ◌≡◌, refl, Bool, true, false, not, ◌&&◌, eqb, ltb, set, take, drop, get_or, replicate}
use Rattle.std.proofs.Common.{sym, ap, ◌∙◌, pow-suc, shr_lt, add-one, eq-eqb, ne_eqb, eqb-true, lt-ltb, ltb-true, le-leb, lit<, length-set, length-take, length-drop, length-append, take-append-drop, drop_of_length-le, drop-cons, take_at, drop_at, take-suc-set, drop-set-lt, length-take-le, drop-drop, get_or-take}
use Rattle.std.proofs.Math.Bool.{or-true, and-true}
use mathlib.Core.List.{List, [], ◌∷◌, ◌++◌, append_assoc, append-nil}
use native.Mathlib.Omega.{arith}
use Rattle.std.proofs.lemmas.Bool.{eqb-false}
use Rattle.std.proofs.Math.ListN.{length, get_or-eq_default}
use Rattle.std.proofs.lemmas.List.{length-replicate, drop-append-le, set-append_left}
use Rattle.std.proofs.Math.Seq.{drop-nil, drop-append-add}
use Rattle.basic_laws.specs.Fold.{fold, all}
use Rattle.basic_laws.specs.Laid.{laid}
use Rattle.basic_laws.specs.Bits.{odd, bit_at, bit_number, bits_of, number_of, bytes_bits}
use Rattle.basic_laws.specs.BitsLaws.{bits_at, number-bits, bits-length, bits-number, bits-append, number_lt}
use Rattle.basic_laws.specs.BitsLaws.{bytes-length, bytes-append, number-set, byte-bit, one_bit}
use Rattle.frame.specs.declared.Frame.{Frame}
use Rattle.basic_laws.specs.Bytes.{Bytes}
use Rattle.basic_laws.specs.FoldLaws.{all_append, all_drop}
use Rattle.basic_laws.specs.Places.{set-append-add, drop-replicate}
use Rattle.basic_laws.specs.ChoiceLaws.{and_left, and_right}
use Rattle.basic_laws.specs.BytesLaws.{bytes-set, bytes_drop, bytes-append-bytes}
use Rattle.frame.specs.Frames.{most_slots, no_bits, blank_frame, slots_of, slot_bit, clear_from, count_allowed, lineable}
use Rattle.frame.specs.Frames.{packed, pushed, slots_pushed, pushed_all, Held, Recorded, with_bit}

-- ## Bits of bytes

pub bits-drop : (i : ℕ) (l : List ℕ) → drop (8 * i) (bytes_bits l) ≡ bytes_bits (drop i l)
unfolding bytes_bits
bits-drop zero l = refl
bits-drop (suc i) [] = drop-nil (8 * suc i)
bits-drop (suc i) (x ∷ l) =
    let e : 8 * suc i ≡ length (bits_of 8 x) + 8 * i = rw (bits-length 8 x) (omega arith) in
    rw (e, drop-append-add (bits_of 8 x) (bytes_bits l) (8 * i), bits-drop i l)

-- no bit of a number is set just where the number is 0
half-zero : (x : ℕ) → (not (odd x) && eqb (x / 2) 0) ≡ eqb x 0
half-zero x = low (odd x) refl (eqb (x / 2) 0) refl
  where
    low : (t : Bool) → odd x ≡ t → (u : Bool) → eqb (x / 2) 0 ≡ u → (not t && u) ≡ eqb x 0
    low true e u f = let o = eqb-true (x % 2) 1 e in sym (ne_eqb x 0 (λ z. omega arith))
    low false e true f =
        let o = eqb-false (x % 2) 1 e in let h = eqb-true (x / 2) 0 f in
        let z : x ≡ 0 = omega arith in sym (eq-eqb x 0 z)
    low false e false f = let h = eqb-false (x / 2) 0 f in sym (ne_eqb x 0 (λ z. h (omega arith)))

none-zero : (n x : ℕ) → x < 2 ^ n → all not (bits_of n x) ≡ eqb x 0
unfolding bits_of all
none-zero zero x h = let z : x ≡ 0 = omega arith in sym (eq-eqb x 0 z)
none-zero (suc n) x h =
    let k : x / 2 < 2 ^ n = omega (arith, pow-suc 2 n) in
    rw (none-zero n (x / 2) k) (half-zero x)

-- the bits of one byte from a place on, and then those of the bytes after it
byte-from : (k x : ℕ) (l : List ℕ) → k < 8 → drop k (bytes_bits (x ∷ l)) ≡ bits_of (8 - k) (x / 2 ^ k) ++ bytes_bits l
unfolding bytes_bits
byte-from k x l h =
    let e : k + (8 - k) ≡ 8 = omega arith in
    let p : bits_of 8 x ≡ bits_of k x ++ bits_of (8 - k) (x / 2 ^ k) =
    ap (λ (m : ℕ). bits_of m x) (sym e) ∙ bits-append k (8 - k) x in
    rw (p, append_assoc (bits_of k x) (bits_of (8 - k) (x / 2 ^ k)) (bytes_bits l))
    (drop_at (bits_of k x) (bits_of (8 - k) (x / 2 ^ k) ++ bytes_bits l) k (bits-length k x))

pub clear-byte : (k x : ℕ) (l : List ℕ) → k < 8 → x < 256 → clear_from k (x ∷ l) ≡ (eqb (x / 2 ^ k) 0 && clear_from 0 l)
clear-byte k x l h b =
    let e : 8 - k + k ≡ 8 = omega arith in
    let s : x / 2 ^ k < 2 ^ (8 - k) = shr_lt (8 - k) k (rw e b) in
    rw (byte-from k x l h, all_append not (bits_of (8 - k) (x / 2 ^ k)) (bytes_bits l), none-zero (8 - k) (x / 2 ^ k) s)

-- the same along a loop over the bytes, from a place within the byte at i on
module _ (l : List ℕ) (k i : ℕ) where
  pub clear-start : (n : ℕ) → k ≡ n % 8 → i ≡ n / 8 → clear_from k (drop i l) ≡ clear_from n l
  clear-start n e f =
      let s : 8 * i + k ≡ n = omega arith in
      ap (λ (t : List Bool). all not (drop k t)) (sym (bits-drop i l))
      ∙ ap (all not) (drop-drop k (8 * i) (bytes_bits l))
      ∙ ap (λ (m : ℕ). clear_from m l) s

  pub clear_step : k < 8 → i < length l → get_or l i 0 < 256
      → clear_from k (drop i l) ≡ (eqb (get_or l i 0 / 2 ^ k) 0 && clear_from 0 (drop (i + 1) l))
  clear_step h j b = rw (drop-cons l i 0 j, add-one i) (clear-byte k (get_or l i 0) (drop (suc i) l) h b)

  pub clear-end : length l ≤ i → clear_from k (drop i l) ≡ true
  unfolding bytes_bits all
  clear-end h = rw (drop_of_length-le l h, drop-nil {A = Bool} k)

-- ## Zero bytes

zeros-bytes : (n : ℕ) → Bytes (replicate n 0)
zeros-bytes zero k = lit< tt
zeros-bytes (suc n) zero = lit< tt
zeros-bytes (suc n) (suc k) = zeros-bytes n k

zeros-clear : (n : ℕ) → clear_from 0 (replicate n 0) ≡ true
unfolding bytes_bits all bits_of
zeros-clear zero = refl
zeros-clear (suc n) = zeros-clear n

-- bytes of which no bit is set are zero
pub clear-zeros : (l : List ℕ) → Bytes l → clear_from 0 l ≡ true → l ≡ replicate (length l) 0
clear-zeros [] h c = refl
clear-zeros (x ∷ l) h c =
    let e : (eqb (x / 1) 0 && clear_from 0 l) ≡ true = sym (clear-byte 0 x l (lit< tt) (h 0)) ∙ c in
    let z = eqb-true (x / 1) 0 (and_left (eqb (x / 1) 0) (clear_from 0 l) e) in
    let o : x ≡ 0 = omega arith in
    rw o (ap (λ (t : List ℕ). 0 ∷ t) (clear-zeros l (λ k. h (suc k)) (and_right (eqb (x / 1) 0) (clear_from 0 l) e)))

-- ## Bytes laid over those of a blank frame

module _ (x : List ℕ) (few : length x ≤ 64) where
  pad-parts : laid no_bits 0 x ≡ x ++ replicate (64 - length x) 0
  unfolding laid no_bits
  pad-parts = let z : 0 + length x ≡ length x = omega arith in
      rw z (ap (λ (t : List ℕ). x ++ t) (drop-replicate (length x) 64 0))

  pub pad-length : length (laid no_bits 0 x) ≡ 64
  pad-length = ap length pad-parts ∙ simp (length-append, length-replicate) (omega arith)

  pub pad-bytes : Bytes x → Bytes (laid no_bits 0 x)
  pad-bytes h = rw pad-parts (bytes-append-bytes x (replicate (64 - length x) 0) h (zeros-bytes (64 - length x)))

  pub pad-clear : (n : ℕ) → n ≤ 8 * length x → clear_from n (laid no_bits 0 x) ≡ clear_from n x
  pad-clear n h =
      let w : n ≤ length (bytes_bits x) = rw (bytes-length x) h in
      let z : List ℕ = replicate (64 - length x) 0 in
      rw (
        pad-parts,
        bytes-append x z,
        drop-append-le n (bytes_bits x) (bytes_bits z) w,
        all_append not (drop n (bytes_bits x)) (bytes_bits z),
        zeros-clear (64 - length x),
      )
      (and-true (clear_from n x))

pub pad-back : (l : List ℕ) (n c : ℕ) → length l ≡ 64 → Bytes l → n ≤ 64 → c ≤ 8 * n → clear_from c l ≡ true
    → laid no_bits 0 (take n l) ≡ l
pad-back l n c s h k w e =
    let t : length (take n l) ≡ n = length-take-le n l (omega arith) in
    let few : length (take n l) ≤ 64 = omega arith in
    let b : c + (8 * n - c) ≡ 8 * n = omega arith in
    let past : clear_from (8 * n) l ≡ true =
    rw (← b, ← drop-drop (8 * n - c) c (bytes_bits l)) (all_drop not (8 * n - c) (drop c (bytes_bits l)) e) in
    let zero_rest : drop n l ≡ replicate (length (drop n l)) 0 =
    clear-zeros (drop n l) (bytes_drop n l h) (rw (← bits-drop n l) past) in
    let m : length (drop n l) ≡ 64 - n = length-drop n l ∙ ap (λ (a : ℕ). a - n) s in
    pad-parts (take n l) few ∙ rw (t, ← m, ← zero_rest) (take-append-drop n l)

-- ## One bit replaced, as the code makes it in the byte that it stands in

-- the bytes with the bit at place i replaced
abbrev pub with_slot : List ℕ → ℕ → Bool → List ℕ
with_slot l i b = set l (i / 8) (with_bit (get_or l (i / 8) 0) (i % 8) b)

with-bits : (x i : ℕ) (b : Bool) → bits_of 8 (with_bit x i b) ≡ set (bits_of 8 x) i b
with-bits x i b =
    let s = set (bits_of 8 x) i b in
    let e : length s ≡ 8 = length-set (bits_of 8 x) i b ∙ bits-length 8 x in
    ap (λ (k : ℕ). bits_of k (number_of s)) (sym e) ∙ bits-number s

pub with-lt : (x i : ℕ) (b : Bool) → with_bit x i b < 256
with-lt x i b =
    let s = set (bits_of 8 x) i b in
    let e : length s ≡ 8 = length-set (bits_of 8 x) i b ∙ bits-length 8 x in
    let h = number_lt s in
    rw e at h

pub with-sum : (x i : ℕ) (b : Bool) → x < 256 → i < 8 → with_bit x i b + x / 2 ^ i % 2 * 2 ^ i ≡ x + bit_number b * 2 ^ i
with-sum x i b h k =
    let w : i < length (bits_of 8 x) = rw (bits-length 8 x) k in
    let o : x / 2 ^ i % 2 ≤ 1 = omega arith in
    let e = number-set (bits_of 8 x) i b w in
    rw (bits_at 8 x i k, number-bits 8 x h, one_bit (x / 2 ^ i % 2) o) at e

bits-set : (l : List ℕ) (q j : ℕ) (b : Bool) → j < 8 → q < length l
    → bytes_bits (set l q (with_bit (get_or l q 0) j b)) ≡ set (bytes_bits l) (8 * q + j) b
unfolding bytes_bits
bits-set [] q j b h k = absurd (omega arith)
bits-set (x ∷ l) zero j b h k =
    let s : j < length (bits_of 8 x) = rw (bits-length 8 x) h in
    let e : 8 * 0 + j ≡ j = omega arith in
    rw (with-bits x j b, e, set-append_left (bits_of 8 x) (bytes_bits l) j b s)
bits-set (x ∷ l) (suc q) j b h k =
    let e : 8 * suc q + j ≡ length (bits_of 8 x) + (8 * q + j) = rw (bits-length 8 x) (omega arith) in
    rw (e, set-append-add (bits_of 8 x) (bytes_bits l) (8 * q + j) b, bits-set l q j b h (omega arith))

pub slot-set : (l : List ℕ) (i : ℕ) (b : Bool) → i < 8 * length l → bytes_bits (with_slot l i b) ≡ set (bytes_bits l) i b
slot-set l i b h =
    let e : 8 * (i / 8) + i % 8 ≡ i = omega arith in
    bits-set l (i / 8) (i % 8) b (omega arith) (omega arith) ∙ ap (λ (k : ℕ). set (bytes_bits l) k b) e

-- bytes are held by their bits
packed-bytes : (l : List ℕ) → Bytes l → packed (length l) (bytes_bits l) ≡ l
unfolding packed bytes_bits
packed-bytes [] h = refl
packed-bytes (x ∷ l) h =
    let size = bits-length 8 x in
    rw (
      take_at (bits_of 8 x) (bytes_bits l) 8 size,
      drop_at (bits_of 8 x) (bytes_bits l) 8 size,
      number-bits 8 x (h 0),
      packed-bytes l (λ k. h (suc k)),
    )

slot-packed : (l : List ℕ) (i : ℕ) (b : Bool) → length l ≡ 64 → Bytes l → i < 8 * length l
    → with_slot l i b ≡ packed 64 (set (bytes_bits l) i b)
slot-packed l i b size h k =
    let x = with_bit (get_or l (i / 8) 0) (i % 8) b in
    let same : length (with_slot l i b) ≡ 64 = length-set l (i / 8) x ∙ size in
    sym (packed-bytes (with_slot l i b) (bytes-set l (i / 8) x h (with-lt (get_or l (i / 8) 0) (i % 8) b)))
    ∙ ap (λ (n : ℕ). packed n (bytes_bits (with_slot l i b))) same ∙ ap (packed 64) (slot-set l i b k)

-- ## One slot by its place

pub slot-here : (f : Frame) (i : ℕ) → length f.bits ≡ 64 → i < f.count → i < most_slots
    → slot_bit f i ≡ bit_at (get_or f.bits (i / 8) 0) (i % 8)
slot-here f i s h k =
    let e : 8 * (i / 8) + i % 8 ≡ i = omega arith in
    get_or-take f.count (bytes_bits f.bits) i false h
    ∙ ap (λ (n : ℕ). get_or (bytes_bits f.bits) n false) (sym e)
    ∙ byte-bit f.bits (i / 8) (i % 8) (omega arith) (omega arith)

pub slot-none : (f : Frame) (i : ℕ) → f.count ≤ i → slot_bit f i ≡ false
slot-none f i h =
    let l : length (slots_of f) ≤ i = rw (length-take f.count (bytes_bits f.bits)) (omega arith) in
    get_or-eq_default (slots_of f) false l

pub slot-past : (f : Frame) (i : ℕ) → length f.bits ≡ 64 → most_slots ≤ i → slot_bit f i ≡ false
slot-past f i s h =
    let w = bytes-length f.bits in
    let l : length (slots_of f) ≤ i = rw (length-take f.count (bytes_bits f.bits)) (omega arith) in
    get_or-eq_default (slots_of f) false l

-- ## One slot more

module _ (f : Frame) (b : Bool) (held : Held f) (room : f.count < most_slots) where
  wide : f.count < length (bytes_bits f.bits)
  wide = let s = held.size in rw (bytes-length f.bits) (omega arith)

  places : bytes_bits (with_slot f.bits f.count b) ≡ set (bytes_bits f.bits) f.count b
  places = let s = held.size in slot-set f.bits f.count b (omega arith)

  pub push-made : pushed f b ≡ record {
    presence = f.presence;
    count = f.count + 1;
    bits = with_slot f.bits f.count b;
  }
  push-made =
      let s = held.size in
      rw (lt-ltb f.count most_slots room, ← slot-packed f.bits f.count b s held.bytes (omega arith))

  pub push-count : (pushed f b).count ≡ f.count + 1
  push-count = rw push-made

  pub push-presence : (pushed f b).presence ≡ f.presence
  push-presence = rw push-made

  pub push-slots : slots_of (pushed f b) ≡ slots_of f ++ (b ∷ [])
  push-slots = rw (push-made, places, add-one f.count) (take-suc-set (bytes_bits f.bits) f.count b wide)

  pub push-held : Held (pushed f b)
  push-held = rw push-made record {
    size = length-set f.bits (f.count / 8) (with_bit (get_or f.bits (f.count / 8) 0) (f.count % 8) b)
        ∙ held.size;
    bytes = bytes-set f.bits (f.count / 8) (with_bit (get_or f.bits (f.count / 8) 0) (f.count % 8) b)
        held.bytes (with-lt (get_or f.bits (f.count / 8) 0) (f.count % 8) b);
  }

  pub push-lineable : f.presence ≡ true → lineable f ≡ true → lineable (pushed f b) ≡ true
  push-lineable p h =
      let all-bits = bytes_bits f.bits in
      let few : f.count + 1 ≤ most_slots = omega arith in
      let past : f.count < f.count + 1 = omega arith in
      let clear : all not (drop f.count all-bits) ≡ true =
      and_right (count_allowed f.presence f.count) (clear_from f.count f.bits) h in
      rw (
        push-made,
        places,
        le-leb (f.count + 1) most_slots few,
        p,
        drop-set-lt (f.count + 1) all-bits f.count b past,
        ← drop-drop 1 f.count all-bits,
      )
      (all_drop not 1 (drop f.count all-bits) clear)

-- the slots so far and the new one, whether there was room for it or not
pub push-history : (f : Frame) (b : Bool) → Held f → slots_of (pushed f b) ≡ slots_pushed f b
push-history f b held = by-test (ltb f.count most_slots) refl
  where
    by-test : (t : Bool) → ltb f.count most_slots ≡ t → slots_of (pushed f b) ≡ slots_pushed f b
    by-test true e = push-slots f b held (ltb-true f.count most_slots e) ∙ rw e
    by-test false e = rw e

-- ## A blank frame, and what is recorded on it

pub blank-held : (p : Bool) → Held (blank_frame p)
unfolding no_bits
blank-held p = record { size = refl; bytes = zeros-bytes 64 }

pub blank-lineable : (p : Bool) → lineable (blank_frame p) ≡ true
unfolding no_bits
blank-lineable p = rw (or-true p) (zeros-clear 64)

pub recorded-none : Recorded [] (blank_frame true)
unfolding bytes_bits
recorded-none = record {
  shown = refl;
  slots = refl;
  total = refl;
  carried = blank-lineable true;
  held = blank-held true;
}

pub recorded_more : (bs : List Bool) (f : Frame) (b : Bool) → length bs < most_slots → Recorded bs f
    → Recorded (bs ++ (b ∷ [])) (pushed f b)
recorded_more bs f b h r =
    let room : f.count < most_slots = rw r.total h in
    record {
      shown = push-presence f b r.held room ∙ r.shown;
      slots = push-slots f b r.held room ∙ ap (λ (l : List Bool). l ++ (b ∷ [])) r.slots;
      total = push-count f b r.held room ∙ ap (λ (n : ℕ). n + 1) r.total ∙ sym (length-append bs (b ∷ []));
      carried = push-lineable f b r.held room r.shown r.carried;
      held = push-held f b r.held room;
    }

recorded-after : (before bs : List Bool) (f : Frame) → length before + length bs ≤ most_slots → Recorded before f
    → Recorded (before ++ bs) (pushed_all f bs)
unfolding fold
recorded-after before [] f h r = rw (append-nil before) r
recorded-after before (b ∷ bs) f h r =
    let k : length before < most_slots = omega arith in
    let l : length (before ++ (b ∷ [])) + length bs ≤ most_slots = simp length-append (omega arith) in
    rw (← append_assoc before (b ∷ []) bs) (recorded-after (before
    ++ (b ∷ [])) bs (pushed f b) l (recorded_more before f b k r))

-- slots recorded one after the other on a blank frame are the frame's slots
pub recorded-all : (bs : List Bool) → length bs ≤ most_slots → Recorded bs (pushed_all (blank_frame true) bs)
recorded-all bs h = recorded-after [] bs (blank_frame true) (omega arith) recorded-none
