-- What one slot can do to a device, as one list of cases, so that a law about every slot is proved case by case and not
-- stage by stage.
--     Outcomes d P         P holds of each device that d can become in a slot
--     hear-outcome         then it holds of the device that it does become
-- A slot moves the stage, and no more; or it ends a function command, which a device that is not busy obeys; or it ends
-- a byte of 4Eh.
use Rattle.std.specs.Prelude.{ℕ, ◌+◌, ◌≡◌, Bool, eqb, set}
use Rattle.std.proofs.Math.Path.{refl}
use Rattle.std.proofs.Math.Bool.{true, false}
use Rattle.std.proofs.Common.{ltb-true}
use Rattle.std.proofs.Math.Dec.{ltb}
use Rattle.std.specs.Prelude.{if◌then◌else◌}
use Rattle.commands.specs.Bytes.{shift_in}
use Rattle.commands.specs.BytesLaws.{shifted-cases}
use Rattle.commands.specs.Commands.{convert, write_scratchpad, read_scratchpad, copy_scratchpad, recall_eeprom, read_power}
use Rattle.family.specs.Layout.{high_limit_place}
use Rattle.device.specs.declared.Activity.TheVariants.{Converting}
use Rattle.device.specs.declared.Device.{Device}
use Rattle.device.specs.declared.Stage.{Stage}
use Rattle.device.specs.declared.Stage.TheVariants.{AwaitRom, SendRom, Match, Search, AwaitFunction}
use Rattle.device.specs.declared.Stage.TheVariants.{TakeSettings, SendScratchpad, SendStatus, SendPower, Quiet}
use Rattle.device.specs.Record.{with_stage, with_activity, with_scratchpad, row_of, busy}
use Rattle.device.specs.Settings.{settings_count, setting_byte}
use Rattle.device.specs.Hear.{copying, recalled, hear_rom, idle_command, function_command, hear_function}
use Rattle.device.specs.Hear.{store_setting, hear_settings, hear_at, hear_of}
use Rattle.device.specs.Outcomes.{Outcomes}

module _ (d : Device) (l : Bool) (P : Device → Type 0) (o : Outcomes d l P) where
  idle-outcome : (c s : ℕ) → d.stage ≡ AwaitFunction s 7 → busy d ≡ false → P (idle_command d c)
  unfolding idle_command
  idle-outcome c s e h = by_tests (eqb c convert) (eqb c write_scratchpad) (eqb c copy_scratchpad) (eqb c recall_eeprom)
    where
      by_tests : (t u v w : Bool) → P
          (if t then with_stage (with_activity d Converting) SendStatus
          else if u then with_stage d (TakeSettings 0 0 0)
          else if v then with_stage (copying d) SendStatus
          else if w then with_stage (recalled d) Quiet
          else with_stage d Quiet)
      by_tests true u v w = o.converts s e h
      by_tests false true v w = o.moved _
      by_tests false false true w = o.copies s e h
      by_tests false false false true = o.recalls s e h
      by_tests false false false false = o.moved _

  function-outcome : (c s : ℕ) → d.stage ≡ AwaitFunction s 7 → P (function_command d c)
  unfolding function_command
  function-outcome c s e = by_tests (eqb c read_scratchpad) (eqb c read_power) (busy d) refl
    where
      by_tests : (t u v : Bool) → busy d ≡ v → P
          (if t then with_stage d (SendScratchpad 0 0) else if u then with_stage d SendPower else if v
          then with_stage d Quiet else idle_command d c)
      by_tests true u v f = o.moved _
      by_tests false true v f = o.moved _
      by_tests false false true f = o.moved _
      by_tests false false false f = idle-outcome c s e f

  store-outcome : (k s : ℕ) → d.stage ≡ TakeSettings k s 7 → P (store_setting d k (shift_in s l))
  unfolding store_setting
  store-outcome k s e = by-test (ltb k (settings_count (row_of d.code d.pins))) refl
    where
      by-test : (t : Bool) → ltb k (settings_count (row_of d.code d.pins)) ≡ t → P
          (if t
          then with_stage (with_scratchpad d (set d.scratchpad (high_limit_place + k)
          (setting_byte (row_of d.code d.pins) k (shift_in s l))))
          (if ltb (k + 1) (settings_count (row_of d.code d.pins)) then TakeSettings (k + 1) 0 0 else Quiet)
          else with_stage d Quiet)
      by-test true f = o.setting-stored k s e (ltb-true k _ f) _
      by-test false f = o.moved _

  at-outcome : (s : Stage) → d.stage ≡ s → P (hear_at d l s)
  at-outcome (AwaitRom s n) e = shifted-cases s n l (λ x. P (hear_rom d x)) (o.moved _) (λ f. o.moved _) (o.moved _)
  at-outcome (SendRom i) e = o.moved _
  at-outcome (Match i) e = o.moved _
  at-outcome (Search i p) e = o.moved _
  at-outcome (AwaitFunction s n) e =
      shifted-cases s n l (λ x. P (hear_function d x)) (o.moved _) (λ f. function-outcome (shift_in s l) s (rw f at e))
      (o.moved _)
  at-outcome (TakeSettings k s n) e =
      shifted-cases s n l (λ x. P (hear_settings d k x)) (o.moved _) (λ f. store-outcome k s (rw f at e)) (o.moved _)
  at-outcome (SendScratchpad k j) e = o.moved _
  at-outcome SendStatus e = o.moved d.stage
  at-outcome SendPower e = o.moved d.stage
  at-outcome Quiet e = o.moved d.stage

  pub hear-outcome : P (hear_of d l)
  unfolding hear_of
  hear-outcome = at-outcome d.stage refl
