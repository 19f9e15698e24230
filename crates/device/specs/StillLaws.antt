-- A device in a still stage stays as it is, stage by stage.
use Rattle.std.specs.Prelude.{◌≡◌, refl, Bool, false, not}
use Rattle.std.proofs.Common.{true≢false}
use Rattle.device.specs.Hear.{hear_at, hear_of}
use Rattle.device.specs.declared.Device.{Device}
use Rattle.device.specs.declared.Stage.{Stage}
use Rattle.device.specs.declared.Stage.TheVariants.{AwaitRom, SendRom, Match, Search, AwaitFunction}
use Rattle.device.specs.declared.Stage.TheVariants.{TakeSettings}
use Rattle.device.specs.declared.Stage.TheVariants.{SendScratchpad, SendStatus, SendPower, Quiet}
use Rattle.device.specs.Stages.{still_at}

pub still-stays : (l : Bool) (d : Device) → not (still_at d.stage) ≡ false → hear_of d l ≡ d
unfolding hear_of
still-stays l d h = at_stage d.stage h
  where
    at_stage : (s : Stage) → not (still_at s) ≡ false → hear_at d l s ≡ d
    at_stage (AwaitRom s n) e = absurd (true≢false e)
    at_stage (SendRom i) e = absurd (true≢false e)
    at_stage (Match i) e = absurd (true≢false e)
    at_stage (Search i p) e = absurd (true≢false e)
    at_stage (AwaitFunction s n) e = absurd (true≢false e)
    at_stage (TakeSettings k s n) e = absurd (true≢false e)
    at_stage (SendScratchpad k j) e = absurd (true≢false e)
    at_stage SendStatus e = refl
    at_stage SendPower e = refl
    at_stage Quiet e = refl
