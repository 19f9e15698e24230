-- What a device holds, by its place among the devices.
--     Held ds i code s     the device at place i has the code, and holds the settings s alone
use Rattle.std.specs.Prelude.{ℕ, ◌<◌, List, ◌≡◌, length}
use Rattle.std.proofs.Math.ListN.{get_or}
use Rattle.device.specs.declared.Device.{Device}
use Rattle.device.specs.declared.Settings.{Settings}
use Rattle.bench.specs.Bench.{vacant}
use Rattle.settings_laws.specs.Shared.{settings_of, kept_by}

abbrev pub HoldsAlone : Settings → Device → Type 0
HoldsAlone s d = settings_of d ≡ kept_by d s

pub record Held (ds : List Device) (i code : ℕ) (s : Settings) : Type 0 where
  pub within : i < length ds
  pub has : (get_or ds i vacant).code ≡ code
  pub alone : HoldsAlone s (get_or ds i vacant)
