-- The reads of the call for address pins, as its loop makes them.
--     Holds list0 list r f     a reading, and the list beside it, hold what was found: the codes from place 0 of the
--                              list, their pins, how many they are, and the bench
--     counted_pin n q p         a count of those that have the pin number p, with one more that has q
use Rattle.std.specs.Prelude.{ℕ, ◌+◌, ◌≤◌, List, ◌≡◌, eqb, length, replicate}
use Rattle.std.specs.Prelude.{if◌then◌else◌}
use Rattle.basic_laws.specs.Laid.{laid}
use Rattle.master_rules.specs.Pins.{PinsFound}
use Rattle.pins.specs.declared.Reading.{Reading}

pub record Holds (list0 list : List ℕ) (r : Reading) (f : PinsFound) : Type 0 where
  pub room : 32 ≤ length list0
  pub codes-are : r.codes ≡ length f.codes
  pub as_many : length f.pins ≡ length f.codes
  pub pins-are : r.pins ≡ laid (replicate 32 0) 0 f.pins
  pub list-is : list ≡ laid list0 0 f.codes
  pub bench-is : r.bench ≡ f.bench

abbrev pub counted_pin : ℕ → ℕ → ℕ → ℕ
counted_pin n q p = if eqb q p then n + 1 else n
