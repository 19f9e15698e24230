-- A frame: one reset, whether any device showed presence, and the line's bit in each slot after it, at most 512. The
-- first slot is bit 0 of the first byte. A line can carry a frame that has no slot without presence and no bit set past
-- its slots.
--     blank_frame p           a frame with no slot
--     slots_of f              the bits of its slots, in order
--     slot_bit f i            the bit of slot i, false at or past the count
--     bytes_for n             how many bytes n slots take, the last of them perhaps in part
--     lineable f             whether a line can carry the frame: its count is allowed, and no bit is set at or past the
--                            count
--     with_bit x i b          a byte with bit i replaced
--     pushed f b             the frame with one slot more; as it is when it has 512
--     slots_pushed f b        the slots so far and the new one; the slots as they are when there are 512
--     pushed_all f bs         the frame with several slots more, one after the other
--     Held f                 the frame is one that the program can hold
--     Recorded bs f          the frame shows presence and just the slots bs, and a line can carry it
use Rattle.std.specs.Prelude.{ℕ, zero, suc, ◌+◌, ◌/◌, ◌≡◌, Bool, true, false, not, ◌&&◌, ◌||◌, List, [], ◌∷◌, ◌++◌, eqb, leb, ltb, length, set, take, drop, get_or, replicate}
use Rattle.std.specs.Prelude.{if◌then◌else◌}
use Rattle.basic_laws.specs.Fold.{fold, all}
use Rattle.basic_laws.specs.Bits.{bits_of, number_of, bytes_bits}
use Rattle.frame.specs.declared.Frame.{Frame}
use Rattle.basic_laws.specs.Bytes.{Bytes}

-- the most slots that a frame has
abbrev pub most_slots : ℕ
most_slots = 512

-- the 64 bytes of a frame in which no bit is set
unfoldable pub no_bits : List ℕ
no_bits = replicate 64 0

abbrev pub blank_frame : Bool → Frame
blank_frame p = record { presence = p; count = 0; bits = no_bits }

abbrev pub slots_of : Frame → List Bool
slots_of f = take f.count (bytes_bits f.bits)

abbrev pub slot_bit : Frame → ℕ → Bool
slot_bit f i = get_or (slots_of f) i false

abbrev pub bytes_for : ℕ → ℕ
bytes_for n = (n + 7) / 8

-- whether no bit of the bytes l is set at or past place n
abbrev pub clear_from : ℕ → List ℕ → Bool
clear_from n l = all not (drop n (bytes_bits l))

-- whether a frame may have n slots: at most 512, and none without presence
abbrev pub count_allowed : Bool → ℕ → Bool
count_allowed p n = leb n most_slots && (p || eqb n 0)

abbrev pub lineable : Frame → Bool
lineable f = count_allowed f.presence f.count && clear_from f.count f.bits

-- the n bytes that hold some bits, eight in each, the first in bit 0
unfoldable pub packed : ℕ → List Bool → List ℕ
packed zero bs = []
packed (suc n) bs = number_of (take 8 bs) ∷ packed n (drop 8 bs)

-- the frame with one slot more: the bit whose number is the count is the new one, all others are as they were, and the
-- count is one more; the frame
abbrev pub pushed : Frame → Bool → Frame
pushed f b =
    if ltb f.count most_slots then record {
      presence = f.presence;
      count = f.count + 1;
      bits = packed 64 (set (bytes_bits f.bits) f.count b);
    } else f

abbrev pub slots_pushed : Frame → Bool → List Bool
slots_pushed f b = if ltb f.count most_slots then slots_of f ++ (b ∷ []) else slots_of f

abbrev pub pushed_all : Frame → List Bool → Frame
pushed_all f bs = fold pushed f bs

pub record Held (f : Frame) : Type 0 where
  pub size : length f.bits ≡ 64
  pub bytes : Bytes f.bits

pub record Recorded (bs : List Bool) (f : Frame) : Type 0 where
  pub shown : f.presence ≡ true
  pub slots : slots_of f ≡ bs
  pub total : f.count ≡ length bs
  pub carried : lineable f ≡ true
  pub held : Held f

abbrev pub with_bit : ℕ → ℕ → Bool → ℕ
with_bit x i b = number_of (set (bits_of 8 x) i b)
