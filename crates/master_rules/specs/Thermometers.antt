-- The thermometers as a search sees them (the scope, "One slot", F0h and ECh): one by one they meet the laws that a
-- search asks of a device, for F0h all of them, for ECh those whose flag is set; and in the course of a search nothing
-- of a device changes but its stage.
--     thermometers           what a device offers, what it becomes in a slot and at a reset
--     search_bits, alarm_bits  the command as the line shows it
--     everybody, flagged     the laws for either command
--     unstaged d             the device without its stage: code, power, activity, stored bytes, flag and page
use Rattle.std.specs.Prelude.{ℕ, ◌≡◌, Bool, true, List, map, ltb}
use Rattle.std.specs.Prelude.{if◌then◌else◌}
use Rattle.basic_laws.specs.Bits.{bits_of}
use Rattle.commands.specs.Commands.{search_rom, alarm_search}
use Rattle.search_laws.specs.Codes.{Code}
use Rattle.search_laws.specs.Searchers.{Model}
use Rattle.device.specs.Hear.{await_function, hear_of}
use Rattle.device.specs.Laws.{only_moves}
use Rattle.device.specs.Offer.{offer_of}
use Rattle.device.specs.Power.{reset_of}
use Rattle.device.specs.Record.{with_stage}
use Rattle.device.specs.declared.Device.{Device}
use Rattle.device.specs.declared.Phase.TheVariants.{SendBit}
use Rattle.device.specs.declared.Stage.{Stage}
use Rattle.device.specs.declared.Stage.TheVariants.{Search, Quiet}

abbrev pub thermometers : Model
thermometers = record { Dev = Device; offer = offer_of; hear = λ x d. hear_of d x; restart = reset_of }

abbrev pub search_bits : List Bool
search_bits = bits_of 8 search_rom

abbrev pub alarm_bits : List Bool
alarm_bits = bits_of 8 alarm_search

-- the code's bits in the order in which they are sent
abbrev pub code_of : Device → Code
code_of d = bits_of 64 d.code

-- a searching device comes to bit j; after the last it awaits a function command
abbrev pub comes_to : ℕ → Stage
comes_to j = if ltb j 64 then Search j SendBit else await_function

abbrev pub unstaged : Device → Device
unstaged d = with_stage d Quiet

-- ## At every slot of a search each device is in a stage in which a slot moves nothing else

abbrev pub Moving : Device → Type 0
Moving d = only_moves d.stage ≡ true

-- ## Who takes part, by the codes as numbers

-- the numbers of the codes, in the order of the devices
abbrev pub numbers_of : List Device → List ℕ
numbers_of ds = map (λ d. d.code) ds
