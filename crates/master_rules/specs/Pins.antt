-- The address pins of the probes that have them (document 02, E5): a search, then a read at each code whose family has
-- pins, in the order of the search. A pin number is what the wire gave.
--     is_pinned code            whether the code's family has address pins
--     pins_shown pad            the pins in a scratchpad: the low four bits of its configuration
--     PinsFound                the codes that were read, their pins, and the bench
--     pins_step f code          a code of the search: a read where its family has pins; a reply that is refused adds
--                              nothing
--     have_pin pins p           how many have a pin number
--     shared_pin pins           the lowest pin number that two have, or none
--     PinsOutcome              what the call comes to
--     pins_outcome b places     the call on bench b with a list of so many places: 1 for fewer than 32, then 10
--     pinned_of, pins_list_after  what the caller gets: the numbers, and the list
-- No reset follows the last read, nor the search where no such probe is there.
use Rattle.std.specs.Prelude.{ℕ, zero, suc, ◌+◌, ◌%◌, Bool, List, [], ◌∷◌, ◌++◌, eqb, ltb, length, get_or, replicate}
use Rattle.std.specs.Prelude.{if◌then◌else◌}
use Rattle.basic_laws.specs.Each.{those}
use Rattle.basic_laws.specs.Fold.{fold}
use Rattle.basic_laws.specs.Laid.{laid}
use Rattle.commands.specs.Commands.{search_rom}
use Rattle.refusals.specs.Refusals.{accepted, no_room}
use Rattle.family.specs.Families.{properties_of}
use Rattle.family.specs.Layout.{configuration_place}
use Rattle.rom.specs.Code.{family_of}
use Rattle.bench.specs.declared.Bench.{Bench}
use Rattle.master_rules.specs.declared.Access.{Access}
use Rattle.master_rules.specs.declared.Pinned.{Pinned}
use Rattle.master_rules.specs.declared.SharedPin.{SharedPin}
use Rattle.master_rules.specs.declared.SharedPin.TheVariants.{NoPin, Pin}
use Rattle.master_rules.specs.Access.{read_at}
use Rattle.master_rules.specs.Search.{fewest_places, fewest_bytes, Outcome, search_outcome}

abbrev pub is_pinned : ℕ → Bool
is_pinned code = (properties_of (family_of code)).pinned

abbrev pub pins_shown : List ℕ → ℕ
pins_shown pad = get_or pad configuration_place 0 % 16

-- ## The reads

pub record PinsFound : Type 0 where
  pub codes : List ℕ
  pub pins : List ℕ
  pub bench : Bench

abbrev pub nobody_read : Bench → PinsFound
nobody_read b = record { codes = []; pins = []; bench = b }

-- one reply
abbrev pub pin_read : PinsFound → ℕ → Access → PinsFound
pin_read f code a =
    if eqb a.refusal accepted then record {
      codes = f.codes ++ (code ∷ []);
      pins = f.pins ++ (pins_shown a.pad ∷ []);
      bench = a.bench;
    }
    else record { codes = f.codes; pins = f.pins; bench = a.bench }

abbrev pub pins_step : PinsFound → ℕ → PinsFound
pins_step f code = if is_pinned code then pin_read f code (read_at f.bench code) else f

-- at each code that a search listed
abbrev pub pins_read_at : Outcome → PinsFound
pins_read_at o = fold pins_step (nobody_read o.bench) o.listed

-- ## The lowest pin number that two have

abbrev pub have_pin : List ℕ → ℕ → ℕ
have_pin pins p = length (those (λ q. eqb q p) pins)

-- from p on, n numbers
unfoldable pub shared_from : ℕ → ℕ → List ℕ → SharedPin
shared_from zero p pins = NoPin
shared_from (suc n) p pins = if ltb 1 (have_pin pins p) then Pin p else shared_from n (p + 1) pins

abbrev pub shared_pin : List ℕ → SharedPin
shared_pin pins = shared_from 16 0 pins

-- ## The call

pub record PinsOutcome : Type 0 where
  pub refusal : ℕ
  pub found : PinsFound

-- a refusal: nobody is listed
abbrev pub not_pinned : ℕ → Bench → PinsOutcome
not_pinned n b = record { refusal = n; found = nobody_read b }

abbrev pub pins_searched : Outcome → PinsOutcome
pins_searched o = if eqb o.refusal accepted then record { refusal = accepted; found = pins_read_at o }
    else not_pinned o.refusal o.bench

unfoldable pub pins_outcome : Bench → ℕ → PinsOutcome
pins_outcome b places =
    if ltb places fewest_places then not_pinned no_room b
    else pins_searched (search_outcome search_rom b fewest_places fewest_bytes)

-- ## What the caller gets

abbrev pub pinned_of : PinsOutcome → Pinned
pinned_of o = record {
  refusal = o.refusal;
  codes = length o.found.codes;
  pins = laid (replicate 32 0) 0 o.found.pins;
  shared = shared_pin o.found.pins;
  bench = o.found.bench;
}

-- the codes from place 0 on, all else as it was
abbrev pub pins_list_after : List ℕ → PinsOutcome → List ℕ
pins_list_after list o = laid list 0 o.found.codes
