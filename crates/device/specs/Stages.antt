-- Tests of the stage that a device is in.
--     still_at s         whether a slot leaves a device in stage s as it is, so that nothing has to be stored
--     quiet_at s         whether it is quiet
--     first_of p         whether the phase of a search is the first of a place, in which the bit is sent
--     starts_at j s      whether the next slot is the first of place j of a search, a place of a code
--     awaits_function s  whether it awaits a function command
use Rattle.std.specs.Prelude.{ℕ, Bool, true, false, ◌&&◌, eqb, ltb}
use Rattle.device.specs.declared.Phase.{Phase}
use Rattle.device.specs.declared.Phase.TheVariants.{SendBit, SendComplement, TakeBit}
use Rattle.device.specs.declared.Stage.{Stage}
use Rattle.device.specs.declared.Stage.TheVariants.{AwaitRom, SendRom, Match, Search, AwaitFunction}
use Rattle.device.specs.declared.Stage.TheVariants.{TakeSettings, SendScratchpad, SendStatus, SendPower, Quiet}

abbrev pub still_at : Stage → Bool
still_at (AwaitRom s n) = false
still_at (SendRom i) = false
still_at (Match i) = false
still_at (Search i p) = false
still_at (AwaitFunction s n) = false
still_at (TakeSettings k s n) = false
still_at (SendScratchpad k i) = false
still_at SendStatus = true
still_at SendPower = true
still_at Quiet = true

abbrev pub quiet_at : Stage → Bool
quiet_at (AwaitRom s n) = false
quiet_at (SendRom i) = false
quiet_at (Match i) = false
quiet_at (Search i p) = false
quiet_at (AwaitFunction s n) = false
quiet_at (TakeSettings k s n) = false
quiet_at (SendScratchpad k i) = false
quiet_at SendStatus = false
quiet_at SendPower = false
quiet_at Quiet = true

abbrev pub first_of : Phase → Bool
first_of SendBit = true
first_of SendComplement = false
first_of TakeBit = false

abbrev pub starts_at : ℕ → Stage → Bool
starts_at j (AwaitRom s n) = false
starts_at j (SendRom i) = false
starts_at j (Match i) = false
starts_at j (Search i p) = first_of p && (eqb i j && ltb j 64)
starts_at j (AwaitFunction s n) = false
starts_at j (TakeSettings k s n) = false
starts_at j (SendScratchpad k i) = false
starts_at j SendStatus = false
starts_at j SendPower = false
starts_at j Quiet = false

abbrev pub awaits_function : Stage → Bool
awaits_function (AwaitRom s n) = false
awaits_function (SendRom i) = false
awaits_function (Match i) = false
awaits_function (Search i p) = false
awaits_function (AwaitFunction s n) = true
awaits_function (TakeSettings k s n) = false
awaits_function (SendScratchpad k i) = false
awaits_function SendStatus = false
awaits_function SendPower = false
awaits_function Quiet = false
