-- The benches that a table holds.
--     Tabled b          32 places, at most that many devices, each with a sound code that no other has, and behind them
--                       vacant places: whatever else a device is doing, and whether calls have made it so or not
use Rattle.std.specs.Prelude.{◌-◌, ◌≤◌, true, ◌≡◌, length, drop, replicate}
use Rattle.basic_laws.specs.Each.{Each, Distinct}
use Rattle.rom.specs.Code.{sound}
use Rattle.bench.specs.Bench.{vacant}
use Rattle.bench.specs.declared.Bench.{Bench}
use Rattle.bench.specs.Sound.{codes_of}

pub record Tabled (b : Bench) : Type 0 where
  pub places : length b.devices ≡ 32
  pub few : b.count ≤ 32
  pub codes-sound : Each (λ c. sound c ≡ true) (codes_of b)
  pub codes-distinct : Distinct (codes_of b)
  pub rest-vacant : drop b.count b.devices ≡ replicate (32 - b.count) vacant
