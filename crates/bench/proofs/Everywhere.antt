-- What no slot, reset, power cycle or finish takes from a device holds of each device of a bench after every call, if
-- it held before: laws `..-each`.
--     Invariant P      nothing that can happen to a device takes P from it
use Rattle.std.specs.Prelude.{ℕ, Bool, get_or}
use Rattle.basic_laws.specs.Each.{Each}
use Rattle.basic_laws.specs.EachLaws.{each-mapped, each_set, each_at}
use Rattle.temperature.specs.declared.Sixteenths.{Sixteenths}
use Rattle.device.specs.Finish.{conversion_done, copy_done}
use Rattle.device.specs.Hear.{hear_of}
use Rattle.device.specs.Power.{reset_of, power_up}
use Rattle.device.specs.Sound.{Sound}
use Rattle.device.proofs.SoundLaws.{reset-sound, hear-sound, power-up-sound, conversion-sound, copy-sound}
use Rattle.device.specs.declared.Device.{Device}
use Rattle.bench.specs.declared.Bench.{Bench}
use Rattle.bench.specs.Bench.{live, vacant}
use Rattle.bench.specs.Slot.{heard, restarted}
use Rattle.bench.specs.Calls.{conversion_finished, copy_finished, power_cycled}
use Rattle.bench.specs.Laws.{OneChanged}
use Rattle.bench.proofs.Laws.{heard-live, restarted-live, conversion-cases, copy-cases, cycle-cases}
use Rattle.bench.specs.Everywhere.{Invariant}

pub sound-invariant : Invariant Sound
sound-invariant = record {
  by-slot = hear-sound;
  by-reset = reset-sound;
  by-power = power-up-sound;
  by-conversion = conversion-sound;
  by_copy = copy-sound;
}

-- ## The calls

module _ (P : Device → Type 0) (I : Invariant P) (b : Bench) (e : Each P (live b)) where
  pub heard-each : (l : Bool) → Each P (live (heard b l))
  heard-each l = rw (heard-live b l) (each-mapped P (λ d. hear_of d l) (λ d. I.by-slot d l) (live b) e)

  pub restarted-each : Each P (live (restarted b))
  restarted-each = rw (restarted-live b) (each-mapped P reset_of I.by-reset (live b) e)

  one_each : (code : ℕ) (f : Device → Device) (after : Bench) (o : OneChanged b code f after)
      → (P (get_or (live b) o.place vacant) → P (f (get_or (live b) o.place vacant))) → Each P (live after)
  one_each code f after o h =
      let d = get_or (live b) o.place vacant in
      rw o.live-is (each_set P (live b) o.place (f d) (h (each_at P (live b) o.place vacant o.within e)) e)

  pub conversion-each : (code : ℕ) (n : Sixteenths) → Each P (live (conversion_finished b code n).bench)
  conversion-each code n =
      conversion-cases b code (λ c. Each P (live c.bench)) (λ r z. e) n
      (λ range after o. one_each code (λ d. conversion_done d n) after o (I.by-conversion _ n range))

  pub copy-each : (code : ℕ) → Each P (live (copy_finished b code).bench)
  copy-each code =
      copy-cases b code (λ c. Each P (live c.bench)) (λ r z. e)
      (λ s after o held. one_each code (λ d. copy_done d s) after o (I.by_copy _ s held))

  pub cycle-each : (code : ℕ) → Each P (live (power_cycled b code).bench)
  cycle-each code = cycle-cases b code (λ c. Each P (live c.bench)) (λ r z. e)
      (λ after o. one_each code power_up after o (I.by-power _))
