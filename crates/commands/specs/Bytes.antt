-- A byte on the wire (the scope, "One slot"), bit by bit, lowest bit first: as a listener takes it, and as a sender
-- gives it.
--     shift_in s l            the shift register s with the line's bit l in: eight bits put in make the byte whose
--                            lowest bit came first
--     shifted s n l          what is held of a byte after bit l, where its first n bits are in s: so many bits of it,
--                            or at the eighth the whole byte; a count above 7, which no slots reach, leads nowhere
--     byte_slot byte j        bit j of a byte that is sent; 1 past its eighth
--     bytes_slot bytes k j    bit j of byte k of those that are sent; 1 past the last
use Rattle.std.specs.Prelude.{ℕ, ◌+◌, ◌/◌, Bool, true, List, ltb, eqb, length, get_or}
use Rattle.std.specs.Prelude.{if◌then◌else◌}
use Rattle.basic_laws.specs.Bits.{bit_at}
use Rattle.commands.specs.declared.Shifted.{Shifted}
use Rattle.commands.specs.declared.Shifted.TheVariants.{Partial, Whole, Beyond}

abbrev pub shift_in : ℕ → Bool → ℕ
shift_in s l = s / 2 + (if l then 128 else 0)

abbrev pub shifted : ℕ → ℕ → Bool → Shifted
shifted s n l = if ltb n 7 then Partial (shift_in s l) (n + 1) else if eqb n 7 then Whole (shift_in s l) else Beyond

abbrev pub byte_slot : ℕ → ℕ → Bool
byte_slot byte j = if ltb j 8 then bit_at byte j else true

abbrev pub bytes_slot : List ℕ → ℕ → ℕ → Bool
bytes_slot bytes k j = if ltb k (length bytes) then byte_slot (get_or bytes k 0) j else true
