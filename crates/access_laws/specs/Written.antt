-- What a write at a code achieves (the scope, "The master"): a write of one setting writes all of them, and nothing
-- else.
--     with_asked d s       the scratchpad of d with the settings s: bytes 2 and 3 and, where its family has a
--                         configuration, 4, that one in stored form with the device's own pins
--     written_at b i s     the devices of b without their stages, the one at place i with these settings
--     bench_written        the bench after the resets and slots of a write and of the read that follows it
--     Writes b code s     what a write of s at the code comes to on the bench b, whoever is there
--     WriteAnswer         so it is on the bench after every history
--     WritePromise        and on a bench to which any history leads
use Rattle.std.specs.Prelude.{ℕ, true, false, List, [], ◌∷◌, map, ◌≢◌, ◌≡◌, set}
use Rattle.basic_laws.specs.Each.{Each}
use Rattle.refusals.specs.Refusals.{accepted, mismatch}
use Rattle.device.specs.Record.{with_scratchpad, family_row, row_of, busy}
use Rattle.device.specs.Settings.{with_settings}
use Rattle.device.specs.declared.Device.{Device}
use Rattle.device.specs.declared.Settings.{Settings}
use Rattle.bench.specs.Bench.{live, place_of, free}
use Rattle.bench.specs.Calls.{device_at}
use Rattle.bench.specs.declared.Bench.{Bench}
use Rattle.bench.specs.declared.Place.TheVariants.{At, Nowhere}
use Rattle.master_rules.specs.Access.{refused_at, write_at}
use Rattle.master_rules.specs.Issued.{issued}
use Rattle.master_rules.specs.Thermometers.{unstaged}
use Rattle.history_laws.specs.History.{Call, write, Typed, after}
use Rattle.access_laws.specs.Shown.{answered_with}
use Rattle.access_laws.specs.Unrefused.{read_bits, write_bits}

abbrev pub with_asked : Device → Settings → List ℕ
with_asked d s = with_settings (row_of d.code d.pins) d.scratchpad s

abbrev pub written_at : Bench → ℕ → Settings → List Device
written_at b i s =
    let d = device_at b i in set (map unstaged (live b)) i (unstaged (with_scratchpad d (with_asked d s)))

abbrev pub bench_written : Bench → ℕ → Settings → Bench
bench_written b code s = (issued (write_bits (family_row code) code s ∷ read_bits code ∷ []) b).bench

-- ## The claims

-- `At i` and `free`: the device at place i has the code, and no device holds the wire
pub record Writes (b : Bench) (code : ℕ) (s : Settings) : Type 0 where
  -- at an idle device it is accepted, and answers the device's bytes with all of the settings as asked, their CRC and
  -- the reading in them
  pub idle-answer : (i : ℕ) → free b ≡ true → place_of b code ≡ At i → busy (device_at b i) ≡ false
      → write_at b code s ≡ answered_with code (with_asked (device_at b i) s) (bench_written b code s)
  -- at a busy one, which has a supply of its own, it is accepted where the device holds what was asked already
  pub busy-accepted : (i : ℕ) → free b ≡ true → place_of b code ≡ At i → busy (device_at b i) ≡ true
      → with_asked (device_at b i) s ≡ (device_at b i).scratchpad
      → write_at b code s ≡ answered_with code (device_at b i).scratchpad (bench_written b code s)
  -- and else refused with 13
  pub busy-refused : (i : ℕ) → free b ≡ true → place_of b code ≡ At i → busy (device_at b i) ≡ true
      → with_asked (device_at b i) s ≢ (device_at b i).scratchpad
      → write_at b code s ≡ refused_at mismatch (bench_written b code s)
  -- an accepted write leaves all of the settings in the device, and nothing else changed but stages
  pub accepted-leaves : (i : ℕ) → place_of b code ≡ At i → (write_at b code s).refusal ≡ accepted
      → map unstaged (live (write_at b code s).bench) ≡ written_at b i s
  -- a refused one leaves nothing changed but stages
  pub refused-leaves : (write_at b code s).refusal ≢ accepted
      → map unstaged (live (write_at b code s).bench) ≡ map unstaged (live b)
  -- where no device has the code a write is refused
  pub absent-refused : place_of b code ≡ Nowhere → (write_at b code s).refusal ≢ accepted
  -- whatever the answer, a device with another code changes in its stage alone
  pub neighbours : (other i : ℕ) → other ≢ code → place_of b other ≡ At i
      → unstaged (device_at (write_at b code s).bench i) ≡ unstaged (device_at b i)

abbrev pub WriteAnswer : Type 0
WriteAnswer = (h : List Call) → Each Typed h → (code : ℕ) (s : Settings) → Typed (write code s)
    → Writes (after h) code s

abbrev pub WritePromise : Bench → ℕ → Settings → Type 0
WritePromise b code s = (h : List Call) → Each Typed h → Typed (write code s) → after h ≡ b → Writes b code s
