-- What the three slots of one place of a search make of a device that is quiet or about to send its bit of the place.
--     settled_of j x d        the device after the three slots of place j, the last of which showed x
--     settled_bench j x b     the bench with every device settled so
--     settled-quiet          a quiet device is as it was
use Rattle.std.specs.Prelude.{ℕ, Bool, false, not, ◌≡◌}
use Rattle.std.proofs.lemmas.Bool.{not-false}
use Rattle.std.specs.Prelude.{if◌then◌else◌}
use Rattle.basic_laws.specs.Front.{map_front}
use Rattle.device.specs.Hear.{after_search}
use Rattle.device.specs.Record.{with_stage}
use Rattle.device.specs.Stages.{quiet_at}
use Rattle.device.specs.declared.Device.{Device}
use Rattle.device.specs.declared.Phase.TheVariants.{TakeBit}
use Rattle.bench.specs.declared.Bench.{Bench}

unfoldable pub settled_of : ℕ → Bool → Device → Device
settled_of j x d = if quiet_at d.stage then d else with_stage d (after_search d.code j TakeBit x)

abbrev pub settled_bench : ℕ → Bool → Bench → Bench
settled_bench j x b = record { devices = map_front (settled_of j x) b.count b.devices; count = b.count }

pub settled-quiet : (j : ℕ) (x : Bool) (d : Device) → not (quiet_at d.stage) ≡ false → settled_of j x d ≡ d
unfolding settled_of
settled-quiet j x d h = rw (not-false (quiet_at d.stage) h)
