-- What the call for address pins comes to on every bench that calls reach (document 02, E5).
--     pins_at b code          the pins of the device with the code
--     read_on b code          the bench after a read at a code, by the slot rule
--     LeastShared pins s     s is the least pin number that two have, or none where no two have one
--     PinsRight b s o        what the call came to, o, on a bench b whose search comes to s
--     PinsClaim              that, after every history
--     PinsPromise            and on a bench to which any history leads
-- Which codes a search lists, and in which order, is demand 3's.
use Rattle.std.specs.Prelude.{ℕ, ◌<◌, ◌≤◌, true, List, [], ◌∷◌, map, ◌≡◌}
use Rattle.basic_laws.specs.Each.{Each, those}
use Rattle.basic_laws.specs.Fold.{fold}
use Rattle.commands.specs.Commands.{search_rom}
use Rattle.refusals.specs.Refusals.{accepted}
use Rattle.bench.specs.Bench.{live, place_of, free}
use Rattle.bench.specs.Calls.{device_at}
use Rattle.bench.specs.declared.Bench.{Bench}
use Rattle.bench.specs.declared.Place.{Place}
use Rattle.bench.specs.declared.Place.TheVariants.{At, Nowhere}
use Rattle.master_rules.specs.Thermometers.{unstaged}
use Rattle.master_rules.specs.declared.SharedPin.{SharedPin}
use Rattle.master_rules.specs.declared.SharedPin.TheVariants.{NoPin, Pin}
use Rattle.master_rules.specs.Issued.{issued}
use Rattle.master_rules.specs.Pins.{is_pinned, have_pin, shared_pin, PinsOutcome, pins_outcome}
use Rattle.master_rules.specs.Search.{fewest_places, fewest_bytes, Outcome, search_outcome}
use Rattle.history_laws.specs.History.{Call, Typed, after}
use Rattle.access_laws.specs.Unrefused.{read_bits}

abbrev pub pins_at_place : Bench → Place → ℕ
pins_at_place b (At i) = (device_at b i).pins
pins_at_place b Nowhere = 0

abbrev pub pins_at : Bench → ℕ → ℕ
pins_at b code = pins_at_place b (place_of b code)

abbrev pub read_on : Bench → ℕ → Bench
read_on b code = (issued (read_bits code ∷ []) b).bench

-- fewer than two have any number below
abbrev pub LeastShared : List ℕ → SharedPin → Type 0
LeastShared pins NoPin = (p : ℕ) → p < 16 → have_pin pins p ≤ 1
LeastShared pins (Pin p) = (1 < have_pin pins p) × ((q : ℕ) → q < p → have_pin pins q ≤ 1)

pub record PinsRight (b : Bench) (s : Outcome) (o : PinsOutcome) : Type 0 where
  pub refusal_is : o.refusal ≡ accepted
  -- no read is refused: each code of the search whose family has pins is listed
  pub codes-are : o.found.codes ≡ those is_pinned s.listed
  pub pins-are : o.found.pins ≡ map (pins_at b) o.found.codes
  pub pins-few : Each (λ p. p < 16) o.found.pins
  pub shared-is : LeastShared o.found.pins (shared_pin o.found.pins)
  pub bench-is : o.found.bench ≡ fold read_on s.bench o.found.codes
  -- nothing but stages changes, and no stored byte
  pub devices-kept : map unstaged (live o.found.bench) ≡ map unstaged (live b)

abbrev pub PinsClaim : Type 0
PinsClaim = (h : List Call) → Each Typed h → free (after h) ≡ true → (places : ℕ) → fewest_places ≤ places
    → PinsRight (after h) (search_outcome search_rom (after h) fewest_places fewest_bytes) (pins_outcome (after h) places)

abbrev pub PinsPromise : Bench → ℕ → Type 0
PinsPromise b places = (h : List Call) → Each Typed h → after h ≡ b → free b ≡ true → fewest_places ≤ places
    → PinsRight b (search_outcome search_rom b fewest_places fewest_bytes) (pins_outcome b places)
