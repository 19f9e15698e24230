-- What holds of every bench that the calls reach (the scope, "One slot"): at most 32 devices, each with a sound code
-- that no other has, each as every device is that the calls reach: a configuration in its stored form, a reading in
-- range, a flag that is the verdict on the page.
--     codes_of b          the codes of the devices on the wire, in their order
--     BenchSound b       the claim
-- Laws: `empty-sound`, and one for each call, refused or not.
use Rattle.std.specs.Prelude.{ℕ, ◌≤◌, ◌≡◌, true, List, map, length}
use Rattle.basic_laws.specs.Each.{Each, Distinct}
use Rattle.rom.specs.Code.{sound}
use Rattle.device.specs.Sound.{Sound}
use Rattle.bench.specs.declared.Bench.{Bench}
use Rattle.bench.specs.Bench.{live}

abbrev pub codes_of : Bench → List ℕ
codes_of b = map (λ d. d.code) (live b)

pub record BenchSound (b : Bench) : Type 0 where
  pub places : length b.devices ≡ 32
  pub few : b.count ≤ 32
  pub codes-sound : Each (λ c. sound c ≡ true) (codes_of b)
  pub codes-distinct : Distinct (codes_of b)
  pub devices-sound : Each Sound (live b)
