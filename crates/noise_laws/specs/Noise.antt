-- Noise on the wire, over bits in the order in which they are sent: those of a scratchpad are `bytes_bits`, byte 0 first
-- and each byte from its lowest bit, so that bit 7 of a byte and bit 0 of the next are neighbours; those of a code are
-- `code_bits`.
--     differences a b      in how many places two strings of equal length differ: how many bits were turned if a was
--                          sent and b was heard
--     OnlyWithin k a b     every place where they differ is one of k neighbours i, i + 1, .., i + k - 1, for some i
--     Slight a b           slight noise: one, two or three bits turned, or a burst, that is at least one and all within
--                          eight neighbours
use Rattle.std.specs.Prelude.{ℕ, ◌+◌, ◌<◌, ◌≤◌, ◌≡◌, Bool, false, List, [], ◌∷◌, get_or}
use Rattle.std.specs.Bool.{beq}
use Rattle.std.specs.Prelude.{if◌then◌else◌}

unfoldable pub differences : List Bool → List Bool → ℕ
differences [] m = 0
differences (a ∷ l) [] = 0
differences (a ∷ l) (b ∷ m) = (if beq a b then 0 else 1) + differences l m

abbrev pub OnlyWithin : ℕ → List Bool → List Bool → Type 0
OnlyWithin k a b = (i : ℕ) × ((j : ℕ) → (get_or a j false ≡ get_or b j false → ⊥) → (i ≤ j) × (j < i + k))

pub data Slight (a b : List Bool) : Type 0 where
  few : 1 ≤ differences a b → differences a b ≤ 3 → Slight a b
  burst : 1 ≤ differences a b → OnlyWithin 8 a b → Slight a b
