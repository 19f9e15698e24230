-- What one slot can do to a device, as one list of cases, so that a law about every slot is proved case by case and not
-- stage by stage.
--     Outcomes d P         P holds of each device that d can become in a slot
--     hear-outcome         then it holds of the device that it does become
-- A slot moves the stage, and no more; or it ends a function command, which a device that is not busy obeys; or it ends
-- a byte of 4Eh.
use Rattle.std.specs.Prelude.{ℕ, ◌+◌, ◌<◌, ◌≡◌, Bool, set}
use Rattle.std.proofs.Math.Bool.{false}
use Rattle.commands.specs.Bytes.{shift_in}
use Rattle.family.specs.Layout.{high_limit_place}
use Rattle.device.specs.declared.Activity.TheVariants.{Converting}
use Rattle.device.specs.declared.Device.{Device}
use Rattle.device.specs.declared.Stage.{Stage}
use Rattle.device.specs.declared.Stage.TheVariants.{AwaitFunction}
use Rattle.device.specs.declared.Stage.TheVariants.{TakeSettings, SendStatus, Quiet}
use Rattle.device.specs.Record.{with_stage, with_activity, with_scratchpad, row_of, busy}
use Rattle.device.specs.Settings.{settings_count, setting_byte}
use Rattle.device.specs.Hear.{copying, recalled}

pub record Outcomes (d : Device) (l : Bool) (P : Device → Type 0) : Type 0 where
  -- only the stage
  pub moved : (s : Stage) → P (with_stage d s)
  -- the last bit of 44h, 48h or B8h, of a device that is not busy
  pub converts : (s : ℕ) → d.stage ≡ AwaitFunction s 7 → busy d ≡ false
      → P (with_stage (with_activity d Converting) SendStatus)
  pub copies : (s : ℕ) → d.stage ≡ AwaitFunction s 7 → busy d ≡ false → P (with_stage (copying d) SendStatus)
  pub recalls : (s : ℕ) → d.stage ≡ AwaitFunction s 7 → busy d ≡ false → P (with_stage (recalled d) Quiet)
  -- the last bit of a byte of 4Eh
  pub setting-stored : (k s : ℕ) → d.stage ≡ TakeSettings k s 7 → k < settings_count (row_of d.code d.pins)
      → (next : Stage)
      → P (with_stage (with_scratchpad d (set d.scratchpad (high_limit_place + k)
      (setting_byte (row_of d.code d.pins) k (shift_in s l)))) next)
