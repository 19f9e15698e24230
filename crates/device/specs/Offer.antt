-- What a device puts on the line in the next slot (the scope, "One slot"): 1 unless it sends a 0.
--     code_slot code i            bit i of the code as sent; 1 past its end
--     search_slot code i phase    in a search: the bit, its complement, or nothing
--     nine_bytes pad              the eight scratchpad bytes and their CRC, as they stand
--     scratchpad_slot pad k j     bit j of byte k of the nine; 1 past their end
--     offer_of d                  what the device offers
use Rattle.std.specs.Prelude.{ℕ, Bool, true, not, List, [], ◌∷◌, ◌++◌, ltb}
use Rattle.std.specs.Prelude.{if◌then◌else◌}
use Rattle.basic_laws.specs.Bits.{bit_at}
use Rattle.commands.specs.Bytes.{bytes_slot}
use Rattle.crc.specs.Crc.{crc_of}
use Rattle.device.specs.declared.Device.{Device}
use Rattle.device.specs.declared.Phase.{Phase}
use Rattle.device.specs.declared.Phase.TheVariants.{SendBit, SendComplement, TakeBit}
use Rattle.device.specs.declared.Power.{Power}
use Rattle.device.specs.declared.Stage.{Stage}
use Rattle.device.specs.declared.Stage.TheVariants.{AwaitRom, SendRom, Match, Search, AwaitFunction}
use Rattle.device.specs.declared.Stage.TheVariants.{TakeSettings, SendScratchpad, SendStatus, SendPower, Quiet}
use Rattle.device.specs.Record.{from_line, busy}

abbrev pub code_slot : ℕ → ℕ → Bool
code_slot code i = if ltb i 64 then bit_at code i else true

abbrev pub search_slot : ℕ → ℕ → Phase → Bool
search_slot code i SendBit = code_slot code i
search_slot code i SendComplement = if ltb i 64 then not (bit_at code i) else true
search_slot code i TakeBit = true

abbrev pub nine_bytes : List ℕ → List ℕ
nine_bytes pad = pad ++ (crc_of pad ∷ [])

unfoldable pub scratchpad_slot : List ℕ → ℕ → ℕ → Bool
scratchpad_slot pad k j = bytes_slot (nine_bytes pad) k j

-- 0 from the data wire, 1 from a supply of its own
abbrev pub power_slot : Power → Bool
power_slot power = not (from_line power)

abbrev pub offer_at : Device → Stage → Bool
offer_at d (AwaitRom s n) = true
offer_at d (SendRom i) = code_slot d.code i
offer_at d (Match i) = true
offer_at d (Search i p) = search_slot d.code i p
offer_at d (AwaitFunction s n) = true
offer_at d (TakeSettings k s n) = true
offer_at d (SendScratchpad k j) = scratchpad_slot d.scratchpad k j
offer_at d SendStatus = not (busy d)
offer_at d SendPower = power_slot d.power
offer_at d Quiet = true

abbrev pub offer_of : Device → Bool
offer_of d = offer_at d d.stage
