-- A line under repair: its characters stand at the front of an array, taken from its end by the last two steps.
--     Repaired cs r          r holds the characters cs, mended, and which steps altered them
use Rattle.std.specs.Prelude.{◌≡◌, ℕ, ◌<◌, ◌≤◌, List, length, take}
use Rattle.mending.specs.declared.Repair.{Repair}
use Rattle.mending.specs.Mending.{mended_chars, altered_by}

pub record Repaired (cs : List ℕ) (r : Repair) : Type 0 where
  pub front : take r.end r.chars ≡ mended_chars cs
  pub count : r.end ≡ length (mended_chars cs)
  pub by : r.altered ≡ altered_by cs
  pub few : r.end ≤ 256
  pub small : r.altered < 8
  pub room : length r.chars ≡ 257
